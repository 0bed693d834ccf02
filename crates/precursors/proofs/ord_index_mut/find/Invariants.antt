-- `precursors::ord_index_mut::find` meets its contract.
-- The invariant: the walk stands no further than the number of smaller keys, and the precursors of the levels above are noted. The measure: stages
-- and ranks left.
use Prim.Native.Nat.{◌+◌, ◌-◌}
use mathlib.Core.Path.{◌≡◌}
use Rattle.model.specs.Cells.{base_of}
use Rattle.model.specs.Nodes.{smaller}
use Rattle.model.specs.Passes.{nodes}
use Rattle.walk.proofs.Noting.{Noted}
use Rattle.precursors.specs.Trails.{Begun}
use Rattle.precursors.proofs.ord_index_mut.find.Given as goal

abbrev pub invariant-loop-stage : goal.invariant-loop-stage
invariant-loop-stage l =
    Begun l.list.words.now l.list.levels l.list.head.0 l.stage l.key l.v × (l.base ≡ base_of l.list.levels l.v.slot.0)
    × Noted l.list.words.now l.list.levels l.list.head.0 (smaller l.key (nodes l.list.words.now l.list.head.0)) l.stage l.slots l.ranks

abbrev pub decreases-loop-stage : goal.decreases-loop-stage
decreases-loop-stage l = l.stage + (65536 - l.v.rank.0)
