-- `key_walk::ord_index::descend` meets its contract.
-- The invariant: in whichever list the walk began, the stages still to come lead where it leads from there, with its tally. The measure: stages and
-- comparisons left.
use Prim.Native.Nat.{ℕ, ◌+◌}
use Rattle.key_walk.specs.Midway.{Stands, Carries}
use Rattle.key_walk.proofs.ord_index.descend.Given as goal

abbrev pub invariant-loop-stage : goal.invariant-loop-stage
invariant-loop-stage l = (a : ℕ) → Stands l.list.words.now l.list.levels a l.initial.stage l.initial.v → Carries l.list.words.now l.list.levels a l.key l.initial.stage l.initial.v l.stage l.v

abbrev pub decreases-loop-stage : goal.decreases-loop-stage
decreases-loop-stage l = l.stage + l.v.left
