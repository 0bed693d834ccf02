-- `figures_text::last` meets its contract: the word, then at most twenty digits and the newline.
use mathlib.Core.Path.{sym}
use native.Mathlib.Omega.{arith}
use borrow.Author.Rules.{rules}
use Rattle.figures_text.proofs.Decimals.{twenty}
use Rattle.figures_text.proofs.Pages.{still, puts_both, given_back}
use Rattle.figures_text.proofs.last.Goals as goal

pub decimal-requires : goal.decimal-requires
decimal-requires c =
    omega (arith, twenty c.args.skipped c.ranges.skipped.fits, c.bytes.ensures.put.ends, c.bytes.ensures.long)

pub bytes-requires-2 : goal.bytes-requires-2
bytes-requires-2 c =
    omega (arith, twenty c.args.skipped c.ranges.skipped.fits, c.bytes.ensures.put.ends, c.bytes.ensures.long, c.decimal.ensures.put.ends, c.decimal.ensures.long)

pub returns : goal.returns
returns c =
    let all = puts_both c.bytes.ensures (puts_both (puts_both c.decimal.ensures (still _)) c.bytes-2.ensures) in
    let same = sym all.same in
    given_back all.put (search rules)
