-- `Page::decimal` meets its contract: what `io::decimal` spells is copied.
use borrow.Author.Rules.{rules}
use Rattle.figures_text.proofs.Decimals.{spelt}
use Rattle.figures_text.proofs.Page.decimal.Goals as goal

pub bytes-requires : goal.bytes-requires
bytes-requires c =
    rw (spelt c.args.n _ (search rules) c.decimal-k.ensures.len c.decimal-k.ensures.digits) c.requires

pub returns : goal.returns
returns c =
    rw (spelt c.args.n _ (search rules) c.decimal-k.ensures.len c.decimal-k.ensures.digits) at c.bytes.ensures
