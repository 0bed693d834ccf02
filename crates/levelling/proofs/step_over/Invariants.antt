-- `levelling::step_over` meets its contract: after l turns the first l precursors are the node.
use Rattle.levelling.proofs.Filling.{BothFilled}
use Rattle.levelling.proofs.step_over.Given as goal

abbrev pub invariant-loop-l : goal.invariant-loop-l
invariant-loop-l l = BothFilled l.initial.slots l.initial.ranks l.slot l.rank l.h l.slots l.ranks l.l
