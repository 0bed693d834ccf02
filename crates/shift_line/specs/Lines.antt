-- Request K1: the lines of a text, and what a line parses to. Bytes are told by their ASCII codes: a newline is 10, a space 32.
-- Rests on digits' `is_digit`.
use Rattle.std.specs.Prelude.{ℕ, ◌+◌, ◌-◌, ◌*◌, Bool, true, false, cond, List, [], ◌∷◌, leb, eqb, Option, Some, None}
use Rattle.digits.specs.Digits.{is_digit}
use Rattle.shift_line.specs.declared.Reading.{Reading}

-- "a text file of lines"; "the last newline may be missing": each newline ends a line, and so does the end of a text after anything else.
abbrev pub begun : ℕ → List (List ℕ) → List (List ℕ)
begun b [] = (b ∷ []) ∷ []
begun b (line ∷ lines) = (b ∷ line) ∷ lines

abbrev pub lines_of : List ℕ → List (List ℕ)
lines_of [] = []
lines_of (b ∷ text) = cond (eqb b 10) ([] ∷ lines_of text) (begun b (lines_of text))

-- "both decimal".
abbrev pub all_digits : List ℕ → Bool
all_digits [] = true
all_digits (b ∷ bs) = cond (is_digit b) (all_digits bs) false

abbrev pub value_from : ℕ → List ℕ → ℕ
value_from n [] = n
value_from n (b ∷ bs) = value_from (n * 10 + (b - 48)) bs

-- "runs of digits, each at most 4294967295": whether these bytes are one.
abbrev pub is_run : List ℕ → Bool
is_run [] = false
is_run (b ∷ bs) = cond (all_digits (b ∷ bs)) (leb (value_from 0 (b ∷ bs)) 4294967295) false

-- "one space between": what stands before the first space, and what behind it.
abbrev pub before : List ℕ → List ℕ
before [] = []
before (b ∷ bs) = cond (eqb b 32) [] (b ∷ before bs)

abbrev pub behind : List ℕ → List ℕ
behind [] = []
behind (b ∷ bs) = cond (eqb b 32) bs (behind bs)

-- "A line parses as two runs of digits, each at most 4294967295, one space between, nothing else".
abbrev pub parsed : List ℕ → Option Reading
parsed line =
    cond (is_run (before line))
    (cond (is_run (behind line)) (Some (record { list = value_from 0 (before line); key = value_from 0 (behind line) })) None)
    None
