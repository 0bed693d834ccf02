-- `link_check::records::Records::absent_from` meets its contract. The loop's invariant: the links of the levels passed are absent.
use Rattle.link_check.proofs.Loops.{Upto}
use Rattle.model.specs.Passes.{Absent}
use Rattle.link_check.proofs.records.Records.absent_from.Given as goal

abbrev pub invariant-loop-l : goal.invariant-loop-l
invariant-loop-l l = Upto l.h l.l (Absent l.self.dims.levels l.self.words.now l.s.0)
