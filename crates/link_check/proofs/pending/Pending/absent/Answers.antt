-- `link_check::pending::Pending::absent` meets its contract: each level is asked.
use native.Mathlib.Omega.{arith}
use Rattle.link_check.proofs.Loops.{upto_no, upto_end}
use Rattle.link_check.proofs.pending.Pending.absent.Goals as goal

pub returns-then-not-link_absent : goal.returns-then-not-link_absent
returns-then-not-link_absent c = upto_no c.loop-l.invariant (omega arith) c.loop-l-test.true c.link_absent.ensures c.if-not-link_absent.true

pub returns : goal.returns
returns c = upto_end c.loop-l.invariant c.loop-l-test.false
