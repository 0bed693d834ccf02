-- `draw::sheet::whole_size` meets its contract: it adds at most 9024 for each list.
use Prim.Native.Nat.{◌+◌, ◌*◌, ◌≤◌}
use Rattle.draw.proofs.sheet.whole_size.Given as goal

abbrev pub invariant-loop-list : goal.invariant-loop-list
invariant-loop-list l = (l.columns ≤ 10) × (l.height + 9024 * goal.iterator-loop-list.remaining l.list-iterator ≤ 144384)
