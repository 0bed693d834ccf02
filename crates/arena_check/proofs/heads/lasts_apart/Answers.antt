-- `arena_check::heads::lasts_apart` meets its contract: each list is asked.
use Rattle.std.proofs.Common.{rules}
use Rattle.link_check.proofs.Loops.{all_decided}
use Rattle.arena_check.proofs.heads.lasts_apart.Goals as goal

pub returns : goal.returns
returns c = all_decided _ _ _ c.all.ensures.ran (λ x b q k. search rules)
