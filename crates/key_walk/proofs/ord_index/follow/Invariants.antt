-- `key_walk::ord_index::follow` meets its contract.
-- The invariant: in whichever list the walk began, the last stage leads where it leads from there, with its tally. The measure: comparisons left.
use Prim.Native.Nat.{ℕ}
use Rattle.key_walk.specs.Midway.{Stands, Carries}
use Rattle.key_walk.proofs.ord_index.follow.Given as goal

abbrev pub invariant-loop-to : goal.invariant-loop-to
invariant-loop-to l = (a : ℕ) → Stands l.list.words.now l.list.levels a 0 l.initial.u → Carries l.list.words.now l.list.levels a l.key 0 l.initial.u 0 l.u

abbrev pub decreases-loop-to : goal.decreases-loop-to
decreases-loop-to l = l.u.left
