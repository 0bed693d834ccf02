-- `figures_text::line` meets its contract: at most ten digits, 66 bytes behind them and the newline.
use mathlib.Core.Path.{sym}
use native.Mathlib.Omega.{arith}
use borrow.Author.Rules.{rules}
use Rattle.figures_text.proofs.Decimals.{ten}
use Rattle.figures_text.proofs.Pages.{puts_both, given_back}
use Rattle.figures_text.proofs.line.Goals as goal

pub decimal-requires : goal.decimal-requires
decimal-requires c =
    omega (arith, ten c.from.result (omega (arith, c.ranges.list.fits)))

pub show-requires : goal.show-requires
show-requires c =
    (omega (arith, ten c.from.result (omega (arith, c.ranges.list.fits)), c.decimal.ensures.long), c.requires.1)

pub bytes-requires : goal.bytes-requires
bytes-requires c =
    omega (arith, ten c.from.result (omega (arith, c.ranges.list.fits)), c.decimal.ensures.long, c.show.ensures.put.long)

pub returns-clause-put : goal.returns-clause-put
returns-clause-put c =
    let named = rw c.from.ensures at c.decimal.ensures in
    let all = puts_both (puts_both named c.show.ensures.put) c.bytes.ensures in
    let same = sym all.same in
    given_back all.put (search rules)

pub returns-clause-upper_bound : goal.returns-clause-upper_bound
returns-clause-upper_bound c = omega (arith, ten c.from.result (omega (arith, c.ranges.list.fits)))
