-- `shift::lines` meets its contract: after i turns the lines of i lists are put.
use native.Mathlib.Omega.{arith}
use Rattle.model.proofs.Columns.{lists_are}
use Rattle.shift.proofs.AllLines.{one-lined}
use Rattle.shift.proofs.lines.Goals as goal

pub loop-list-preserved : goal.loop-list-preserved
loop-list-preserved c =
    let figures = rw c.new.ensures.nodes at c.of-f.ensures.value in
    one-lined
    (omega (arith, lists_are c.args.w.now))
    c.loop-list.invariant
    (rw figures at c.line-at.ensures.put)
    c.line-at.ensures.upper_bound
