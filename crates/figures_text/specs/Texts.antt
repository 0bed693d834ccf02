-- Request K1: what the report's lines look like, as bytes told by their ASCII codes: a space is 32, a newline 10, digits are 48 to 57.
-- Rests on figures' record of figures.
use Rattle.std.specs.Prelude.{ℕ, zero, suc, ◌+◌, ◌/◌, ◌%◌, ◌≡◌, cond, List, [], ◌∷◌, ◌++◌, ltb, eqb, length, take, drop}
use Rattle.figures.specs.declared.Figures.{Figures}

-- A number of at most so many digits, in decimal without leading zeros.
abbrev pub decimal_in : ℕ → ℕ → List ℕ
decimal_in zero n = []
decimal_in (suc digits) n = cond (ltb n 10) ((48 + n) ∷ []) (decimal_in digits (n / 10) ++ (48 + n % 10) ∷ [])

-- A u64 has at most 20 digits.
unfoldable pub decimal_of : ℕ → List ℕ
decimal_of n = decimal_in 20 n

-- Numbers, each behind a space.
abbrev pub spaced : List ℕ → List ℕ
spaced [] = []
spaced (n ∷ ns) = 32 ∷ decimal_of n ++ spaced ns

-- "per list: number of readings, smallest, largest, and the keys at indexes floor(q(n-1)/4) for q = 1, 2, 3"; "A list without readings prints its
-- number and 0 only." Request K2: "the report prints the doubled figure for q = 2".
abbrev pub shown : Figures → List ℕ
shown f = cond (eqb f.count 0) (0 ∷ []) (f.count ∷ f.smallest ∷ f.largest ∷ f.lower ∷ f.middle ∷ f.upper ∷ [])

abbrev pub line_of : ℕ → Figures → List ℕ
line_of l f = decimal_of l ++ spaced (shown f) ++ 10 ∷ []

-- "counted in a last line, always written": `skipped S`.
abbrev pub last_of : ℕ → List ℕ
last_of s = 115 ∷ 107 ∷ 105 ∷ 112 ∷ 112 ∷ 101 ∷ 100 ∷ spaced (s ∷ []) ++ 10 ∷ []

-- Bytes are put into a slice at a place: what stood before it stays and what stands behind them too, and `end` is the place behind them.
pub record Put (at : ℕ) (bytes before after : List ℕ) (end : ℕ) : Type 0 where
  pub ends : end ≡ at + length bytes
  pub front : take end after ≡ take at before ++ bytes
  pub rest : drop end after ≡ drop end before
