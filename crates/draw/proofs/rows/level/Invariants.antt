-- `draw::rows::level` is safe: the indexes of a block are those of nodes, and the held link leaves an owner before the index.
use Rattle.draw.specs.Holds.{Holds}
use Rattle.draw.proofs.rows.level.Given as goal

abbrev pub invariant-loop-i : goal.invariant-loop-i
invariant-loop-i g l = Holds l.b.list.words.now l.b.list.head.0 l.l l.i l.before
