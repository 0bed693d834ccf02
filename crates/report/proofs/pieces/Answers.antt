-- `report::pieces` meets its contract: each read goes on from the last.
use Rattle.report.proofs.Onwards.{nothing_read, then_read}
use Rattle.report.proofs.pieces.Goals as goal

pub loop-spent-init : goal.loop-spent-init
loop-spent-init g c = rw c.new-desk.ensures (nothing_read 0)

pub loop-spent-preserved : goal.loop-spent-preserved
loop-spent-preserved g c = then_read c.loop-spent.invariant (rw c.in-Some.is at c.in_ok-n.ensures).0
