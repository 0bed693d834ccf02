-- `rank_walk::index::reach` meets its contract.
-- The invariant: the walk stands no further than the target. The measure: stages and ranks left.
use Prim.Native.Nat.{◌+◌, ◌-◌}
use mathlib.Core.Path.{◌≡◌}
use Rattle.model.specs.Cells.{base_of}
use Rattle.walk.specs.Standing.{Standing}
use Rattle.rank_walk.proofs.index.reach.Given as goal

abbrev pub invariant-loop-stage : goal.invariant-loop-stage
invariant-loop-stage l =
    Standing l.list.words.now l.list.levels l.list.head.0 l.target.0 l.stage l.v.slot.0 l.v.rank.0 × (l.base ≡ base_of l.list.levels l.v.slot.0)

abbrev pub decreases-loop-stage : goal.decreases-loop-stage
decreases-loop-stage l = l.stage + (l.target.0 - l.v.rank.0)
