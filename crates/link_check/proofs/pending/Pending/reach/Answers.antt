-- `link_check::pending::Pending::reach` meets its contract: each level is asked.
use native.Mathlib.Omega.{arith}
use Rattle.link_check.proofs.Loops.{upto_no, upto_end}
use Rattle.link_check.proofs.pending.Pending.reach.Goals as goal

pub returns-then-not-reaches : goal.returns-then-not-reaches
returns-then-not-reaches c = upto_no c.loop-l.invariant (omega arith) c.loop-l-test.true c.reaches.ensures c.if-not-reaches.true

pub returns : goal.returns
returns c = upto_end c.loop-l.invariant c.loop-l-test.false
