-- `levelling::level` meets its contract: after i turns the first i nodes are levelled, and the path leads to index i.
use Rattle.levelling.proofs.EveryNode.{Levelling}
use Rattle.levelling.proofs.level.Given as goal

abbrev pub invariant-loop-i : goal.invariant-loop-i
invariant-loop-i l = Levelling l.initial.w l.m l.list.0 l.n l.i l.w l.path
