-- The digits that `io::decimal` spells are those of a number in decimal, at most ten of a sum of two u32 and twenty of a u64. Rests on Texts and io's Digits.
use Prim.Native.Nat.{ℕ, zero, suc, ◌*◌, ◌/◌, ◌%◌, ◌^◌, ◌≤◌, ◌<◌}
use mathlib.Core.Path.{◌≡◌, ◌∙◌}
use mathlib.Core.List.{List}
use lib.Dec.{lit<}
use lib.ListN.{length, length-append}
use borrow.Author.Tests.{lt-ltb, le-ltb}
use native.Mathlib.Decide.{dec_le}
use native.Mathlib.Nat.{mod-lt, mod-eq_of_lt, pow-suc, one-le-pow, lt_of_not-le}
use native.Mathlib.Numerals.{sub-one}
use native.Mathlib.Omega.{arith}
use Rattle.io.specs.Digits.{last_digits, IsDigitCount}
use Rattle.figures_text.specs.Texts.{decimal_in, decimal_of}

-- A number of k + 2 digits is one of k + 1 digits without its last.
fewer : (k n : ℕ) → IsDigitCount 10 1 n (suc (suc k)) → IsDigitCount 10 1 (n / 10) (suc k) × (10 ≤ n)
fewer k n few =
    let big : 10 ^ suc k ≤ n = rw sub-one at (few.2 (omega arith)) in
    let more : 1 ≤ 10 ^ k = one-le-pow k 10 (lit< tt) in
    let a : 10 ^ suc k ≡ 10 ^ k * 10 = pow-suc 10 k in
    let b : 10 ^ suc (suc k) ≡ 10 ^ suc k * 10 = pow-suc 10 (suc k) in
    ((omega arith, omega (arith, few.1), λ _. rw sub-one (omega arith)), omega arith)

-- The fewest digits are those of the definition, which has room for them.
same_in : (d k n : ℕ) → n < 10 ^ suc d → IsDigitCount 10 1 n k → last_digits 10 k n ≡ decimal_in (suc d) n
same_in d zero n below few = absurd (omega arith)
same_in d (suc zero) n below few = simp (mod-eq_of_lt few.1, lt-ltb n 10 few.1)
same_in zero (suc (suc k)) n below few = absurd (omega (arith, fewer k n few))
same_in (suc d) (suc (suc k)) n below few =
    let rest : n / 10 < 10 ^ suc d = omega (arith, pow-suc 10 (suc d)) in
    rw (le-ltb n 10 (fewer k n few).1, lt-ltb (n % 10) 10 (mod-lt n (lit< tt)), ← same_in d (suc k) (n / 10) rest (fewer k n few).0)

-- Bytes that spell the fewest digits are the number in decimal.
pub spelt : (n k : ℕ) {bytes : List ℕ} → n < 2 ^ 64 → IsDigitCount 10 1 n k → bytes ≡ last_digits 10 k n → bytes ≡ decimal_of n
unfolding decimal_of
spelt n k fits few e = e ∙ same_in 19 k n (omega arith) few

-- A number below 10 ^ (k + 1) has at most k + 1 digits.
short_in : (d k n : ℕ) → n < 10 ^ suc k → length (decimal_in d n) ≤ suc k
short_in zero k n below = omega arith
short_in (suc d) zero n below = rw (lt-ltb n 10 below) (omega arith)
short_in (suc d) (suc k) n below =
    let rest : n / 10 < 10 ^ suc k = omega (arith, pow-suc 10 (suc k)) in
    elim (dec_le 10 n) [
      | yes p ↦ rw (le-ltb n 10 p, length-append) (omega (arith, short_in d k (n / 10) rest))
      | no q ↦ rw (lt-ltb n 10 (lt_of_not-le q)) (omega arith)
    ]

pub ten : (n : ℕ) → n ≤ 2 * 4294967295 → length (decimal_of n) ≤ 10
unfolding decimal_of
ten n fits = short_in 20 9 n (omega arith)

pub twenty : (n : ℕ) → n < 2 ^ 64 → length (decimal_of n) ≤ 20
unfolding decimal_of
twenty n fits = short_in 20 19 n (omega arith)
