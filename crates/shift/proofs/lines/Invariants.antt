-- `shift::lines` meets its contract: after i turns the lines of i lists are put.
use Rattle.shift.proofs.AllLines.{Lined}
use Rattle.shift.proofs.lines.Given as goal

abbrev pub invariant-loop-list : goal.invariant-loop-list
invariant-loop-list l = Lined l.w l.initial.out l.out l.at l.list
