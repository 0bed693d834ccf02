-- `rank_walk::index_mut::seek` meets its contract.
-- The invariant: the walk stands no further than the limit, and the precursors of the levels above are noted. The measure: stages and ranks left.
use Prim.Native.Nat.{◌+◌, ◌-◌}
use mathlib.Core.Path.{◌≡◌}
use Rattle.model.specs.Cells.{base_of}
use Rattle.walk.specs.Standing.{Standing}
use Rattle.walk.proofs.Noting.{Noted}
use Rattle.rank_walk.proofs.index_mut.seek.Given as goal

abbrev pub invariant-loop-stage : goal.invariant-loop-stage
invariant-loop-stage l =
    Standing l.list.words.now l.list.levels l.list.head.0 l.limit.0 l.stage l.v.slot.0 l.v.rank.0 × (l.base ≡ base_of l.list.levels l.v.slot.0)
    × Noted l.list.words.now l.list.levels l.list.head.0 l.limit.0 l.stage l.slots l.ranks

abbrev pub decreases-loop-stage : goal.decreases-loop-stage
decreases-loop-stage l = l.stage + (l.limit.0 - l.v.rank.0)
