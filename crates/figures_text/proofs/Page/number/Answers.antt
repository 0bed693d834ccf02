-- `Page::number` meets its contract: the space, then at most ten digits.
use native.Mathlib.Omega.{arith}
use Rattle.figures_text.proofs.Decimals.{ten}
use Rattle.figures_text.proofs.Pages.{still, puts_both}
use Rattle.figures_text.proofs.Page.number.Goals as goal

pub decimal-requires : goal.decimal-requires
decimal-requires c =
    omega (arith, ten c.args.n c.requires.1, c.bytes.ensures.put.ends, c.bytes.ensures.long)

pub returns-clause-put : goal.returns-clause-put
returns-clause-put c = puts_both c.bytes.ensures (puts_both c.decimal.ensures (still _))

pub returns-clause-upper_bound : goal.returns-clause-upper_bound
returns-clause-upper_bound c = omega (arith, ten c.args.n c.requires.1, c.bytes.ensures.put.ends, c.decimal.ensures.put.ends)
