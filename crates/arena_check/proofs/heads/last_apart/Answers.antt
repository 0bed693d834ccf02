-- `arena_check::heads::last_apart` meets its contract: each head before it is asked.
use Rattle.std.proofs.Common.{rules}
use borrow.Author.Tests.{eq-eqb}
use Rattle.link_check.proofs.Loops.{all_decided}
use Rattle.arena_check.proofs.HeadTests.{empty-list, last-differs}
use Rattle.arena_check.proofs.heads.last_apart.Goals as goal

pub returns-then-last : goal.returns-then-last
returns-then-last c = let e = eq-eqb _ _ c.if-last.true in rw e (empty-list _ _ _ c.cell-last.ensures c.if-last.true)

pub returns-else-last : goal.returns-else-last
returns-else-last c = all_decided _ _ _ c.all.ensures.ran (λ x b q k. search (rules, last-differs))
