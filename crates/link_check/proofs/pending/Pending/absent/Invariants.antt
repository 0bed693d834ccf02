-- `link_check::pending::Pending::absent` meets its contract. The loop's invariant: the pending links of the levels passed are absent.
use lib.ListN.{get_or}
use Rattle.link_check.proofs.Loops.{Upto}
use Rattle.model.specs.Passes.{Absent}
use Rattle.link_check.proofs.pending.Pending.absent.Given as goal

abbrev pub invariant-loop-l : goal.invariant-loop-l
invariant-loop-l l = Upto 0 l.l (λ k. Absent l.self.records.dims.levels l.self.records.words.now (get_or l.self.slots k 0) k)
