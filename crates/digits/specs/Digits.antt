-- Digits by their ASCII codes, and a number with one digit more. Rests on nothing.
use Rattle.std.specs.Prelude.{ℕ, ◌+◌, ◌-◌, ◌*◌, Bool, false, cond, leb, ltb, Option, Some, None}

-- A byte from `0` to `9`.
unfoldable pub is_digit : ℕ → Bool
is_digit b = cond (ltb b 48) false (leb b 57)

-- n with the digit b behind it, if that is a number up to 4294967295.
unfoldable pub longer : ℕ → ℕ → Option ℕ
longer n b = cond (is_digit b) (cond (leb (n * 10 + (b - 48)) 4294967295) (Some (n * 10 + (b - 48))) None) None
