-- `digits::longer` meets its contract: no digit, a number too large, or one digit more.
use native.Mathlib.Omega.{arith}
use Rattle.digits.proofs.DigitLaws.{digit_from_48, no_digit, too_big, one_more}
use Rattle.digits.proofs.longer.Goals as goal

pub returns-then-not-is_digit : goal.returns-then-not-is_digit
returns-then-not-is_digit c =
    cc (no_digit c.args.n c.args.b (cc c.if-not-is_digit.true))

pub overflow_sub-b : goal.overflow_sub-b
overflow_sub-b c =
    (digit_from_48 c.args.b (cc c.if-not-is_digit.false)).0

pub returns-then-value-gt-LARGEST : goal.returns-then-value-gt-LARGEST
returns-then-value-gt-LARGEST c =
    cc (too_big c.args.n c.args.b (cc c.if-not-is_digit.false) (omega arith))

pub returns : goal.returns
returns c =
    cc (one_more c.args.n c.args.b (cc c.if-not-is_digit.false) (omega arith))
