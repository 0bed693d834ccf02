-- What one letter, one digit and the end of a number make of a line, by the tests of the code. Rests on Reads.
use Prim.Native.Nat.{ℕ, ◌+◌, ◌*◌, ◌%◌, ◌≤◌, ◌<◌}
use mathlib.Core.Bool.{true, false}
use mathlib.Core.Path.{◌≡◌}
use borrow.Author.Tests.{lt-ltb, le-ltb}
use Rattle.std.specs.Prelude.{Some, None}
use Rattle.digits.specs.Digits.{longer}
use Rattle.script_line.specs.declared.Reading.{Reading}
use Rattle.script_line.specs.declared.Reading.TheVariants.{Name, Digits, Spoilt}
use Rattle.script_line.specs.declared.Line.{Line}
use Rattle.script_line.specs.Reads.{is_letter, turned, lettered, digited, numbered}

module _ (line : Line) (b : ℕ) where
  pub no_letter : is_letter b ≡ false → lettered line b ≡ turned Spoilt line
  unfolding lettered
  no_letter e = simp e

  pub letter_too_many : is_letter b ≡ true → 36028797018963968 ≤ line.name → lettered line b ≡ turned Spoilt line
  unfolding lettered
  letter_too_many e h = simp (e, le-ltb _ _ h)

  pub letter-more :
      is_letter b ≡ true
      → line.name < 36028797018963968
      → lettered line b ≡ record { reading = Name; name = line.name * 32 + b % 32; number = 0; count = line.count }
  unfolding lettered
  letter-more e h = simp (e, lt-ltb _ _ h)

  pub number_is : (n : ℕ) → longer line.number b ≡ Some n → digited line b ≡ record { reading = Digits; name = line.name; number = n; count = line.count }
  number_is n e = simp e

  pub number_spoilt : longer line.number b ≡ None → digited line b ≡ turned Spoilt line
  number_spoilt e = simp e

module _ (line : Line) (room : ℕ) (then : Reading) where
  pub number_in : line.count < room → numbered line room then ≡ record { reading = then; name = line.name; number = 0; count = line.count + 1 }
  unfolding numbered
  number_in h = simp (lt-ltb _ _ h)

  pub number_past : room ≤ line.count → numbered line room then ≡ turned Spoilt line
  unfolding numbered
  number_past h = simp (le-ltb _ _ h)
