-- `Page::numbers` meets its contract. The loop's invariant: the numbers so far are put, each in 11 bytes at most.
use native.Mathlib.Omega.{arith}
use Rattle.figures_text.proofs.Pages.{still, puts_more}
use Rattle.figures_text.proofs.Page.numbers.Goals as goal

pub loop-n-init : goal.loop-n-init
loop-n-init c = (still _, omega arith)

pub loop-n-preserved : goal.loop-n-preserved
loop-n-preserved c = (
  puts_more c.args.ns.now c.loop-n.n-index c.loop-n-test.true c.loop-n.invariant.0 (rw c.from.ensures at c.number.ensures.put),
  omega arith,
)
