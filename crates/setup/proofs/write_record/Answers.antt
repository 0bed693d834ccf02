-- `setup::write_record` meets its contract. The loop's invariant: the links of the levels passed are written, whatever the front is.
use native.Mathlib.Omega.{arith}
use Rattle.setup.proofs.Writing.{front-written, still_lies, link_written, all-written}
use Rattle.setup.proofs.write_record.Goals as goal

pub loop-l-preserved : goal.loop-l-preserved
loop-l-preserved c =
    let front = front-written c.args.f c.requires c.write_front.ensures in
    λ f. link_written (still_lies c.requires front) (omega arith) (c.loop-l.invariant f) c.put_link.ensures

pub returns : goal.returns
returns c =
    let front = front-written c.args.f c.requires c.write_front.ensures in
    all-written (omega arith) (omega arith) front (c.loop-l.invariant c.args.f)
