-- `draw::sheet::arena` is safe: the lists drawn so far are no higher than their heights.
use Prim.Native.Nat.{◌+◌, ◌*◌, ◌≤◌}
use Rattle.draw.proofs.sheet.arena.Given as goal

abbrev pub invariant-loop-one : goal.invariant-loop-one
invariant-loop-one g l = l.y + 9024 * (goal.iterator-loop-one g).remaining l.one-iterator ≤ 144384
