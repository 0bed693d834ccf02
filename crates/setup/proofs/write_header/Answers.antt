-- `setup::write_header` meets its contract: eight stores from the front.
use mathlib.Core.Path.{refl}
use Rattle.setup.proofs.NewModel.{header-set, header_new}
use Rattle.setup.proofs.write_header.Goals as goal

pub returns : goal.returns
returns c = rw (← header_new c.args.l c.args.m c.args.c c.requires.le_c) (header-set c.args.w.now _ refl c.requires.header_words_in_bounds)
