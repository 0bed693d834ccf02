-- What one digit makes of a number, by the tests of the code. Rests on Digits.
use Prim.Native.Nat.{ℕ, ◌+◌, ◌-◌, ◌*◌, ◌≤◌, ◌<◌}
use mathlib.Core.Bool.{Bool, true, false, cond}
use mathlib.Core.Path.{◌≡◌, refl}
use lib.Dec.{ltb, leb}
use borrow.Author.Tests.{le-leb, lt-leb, leb-true, leb-false, ltb-false}
use native.Mathlib.Omega.{arith}
use Rattle.std.specs.Prelude.{Some, None}
use Rattle.digits.specs.Digits.{is_digit, longer}

module _ (b : ℕ) where
  pub digit_from_48 : is_digit b ≡ true → 48 ≤ b × (b ≤ 57)
  unfolding is_digit
  digit_from_48 e = from (ltb b 48) (leb b 57) refl refl e
    where
      from : (low high : Bool) → ltb b 48 ≡ low → leb b 57 ≡ high → cond low false high ≡ true → 48 ≤ b × (b ≤ 57)
      from true high l h e = let z : ◌≡◌ {A = ℕ} 0 1 = cc in (omega arith, omega arith)
      from false true l h e = (ltb-false _ _ l, leb-true _ _ h)
      from false false l h e = let z : ◌≡◌ {A = ℕ} 0 1 = cc in (omega arith, omega arith)

module _ (n b : ℕ) where
  pub no_digit : is_digit b ≡ false → longer n b ≡ None
  unfolding longer
  no_digit e = simp e

  pub too_big : is_digit b ≡ true → 4294967295 < n * 10 + (b - 48) → longer n b ≡ None
  unfolding longer
  too_big e h = simp (e, lt-leb _ _ h)

  pub one_more : is_digit b ≡ true → n * 10 + (b - 48) ≤ 4294967295 → longer n b ≡ Some (n * 10 + (b - 48))
  unfolding longer
  one_more e h = simp (e, le-leb _ _ h)

-- which of the three it is
pub data Longer (n b : ℕ) : Type 0 where
  no : is_digit b ≡ false → longer n b ≡ None → Longer n b
  big : is_digit b ≡ true → 4294967295 < n * 10 + (b - 48) → longer n b ≡ None → Longer n b
  more : is_digit b ≡ true → n * 10 + (b - 48) ≤ 4294967295 → longer n b ≡ Some (n * 10 + (b - 48)) → Longer n b

pub longer? : (n b : ℕ) → Longer n b
longer? n b = by (is_digit b) (leb (n * 10 + (b - 48)) 4294967295) refl refl
  where
    by : (d l : Bool) → is_digit b ≡ d → leb (n * 10 + (b - 48)) 4294967295 ≡ l → Longer n b
    by false l e f = no e (no_digit n b e)
    by true true e f = more e (leb-true _ _ f) (one_more n b e (leb-true _ _ f))
    by true false e f = big e (leb-false _ _ f) (too_big n b e (leb-false _ _ f))
