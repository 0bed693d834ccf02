-- `link_check::pending::Pending::reach` meets its contract. The loop's invariant: the pending links of the levels passed go to this node.
use lib.ListN.{get_or}
use Rattle.link_check.proofs.Loops.{Upto}
use Rattle.link_check.specs.LevelLinks.{Reaches}
use Rattle.link_check.proofs.pending.Pending.reach.Given as goal

abbrev pub invariant-loop-l : goal.invariant-loop-l
invariant-loop-l l = Upto 0 l.l (λ k. Reaches l.self.records.words.now l.self.records.dims k (get_or l.self.slots k 0) (get_or l.self.ranks k 0) l.s.0 l.r.0)
