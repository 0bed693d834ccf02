-- `draw::boxes::level` is safe: a block has at most ten columns, and the held link leaves an owner before the index.
use Prim.Native.Nat.{◌≤◌}
use Rattle.draw.specs.Holds.{Holds}
use Rattle.draw.proofs.boxes.level.Given as goal

abbrev pub invariant-loop-i : goal.invariant-loop-i
invariant-loop-i g l = Holds l.b.list.words.now l.b.list.head.0 l.l l.i l.before × (l.row ≤ 15)
