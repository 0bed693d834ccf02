-- `arena_check::check` meets its contract: whole words are those of an arena that passes.
use Rattle.arena_check.proofs.WholePasses.{promise}
use Rattle.arena_check.proofs.check.Goals as goal

pub returns : goal.returns
returns c = promise _ _ c.whole.ensures
