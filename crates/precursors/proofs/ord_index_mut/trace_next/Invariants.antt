-- `precursors::ord_index_mut::trace_next` meets its contract.
-- The invariant: in whichever list the walk began, it stands no further than the number of smaller keys, and its bound's key is not smaller.
-- The measure: ranks left.
use Prim.Native.Nat.{ℕ, ◌-◌}
use Rattle.precursors.specs.Trails.{Begun}
use Rattle.precursors.proofs.ord_index_mut.trace_next.Given as goal

abbrev pub invariant-loop-next : goal.invariant-loop-next
invariant-loop-next l = (a : ℕ) → Begun l.list.words.now l.list.levels a 0 l.key l.initial.v → Begun l.list.words.now l.list.levels a 0 l.key l.v

abbrev pub decreases-loop-next : goal.decreases-loop-next
decreases-loop-next l = 65536 - l.v.rank.0
