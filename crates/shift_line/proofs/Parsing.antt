-- A line that is read byte by byte is what `parsed` says. Rests on Lines and Reads.
use Prim.Native.Nat.{ℕ, ◌+◌, ◌-◌, ◌*◌, ◌≤◌, ◌<◌}
use mathlib.Core.Path.{◌≡◌, refl, sym, ap, ◌∙◌}
use mathlib.Core.Bool.{Bool, true, false, cond}
use mathlib.Core.List.{List, [], ◌∷◌}
use lib.Dec.{leb, eqb}
use borrow.Author.Tests.{le-leb, lt-leb, eqb-true}
use native.Mathlib.Omega.{arith}
use Rattle.std.specs.Prelude.{Option, Some, None}
use Rattle.digits.specs.Digits.{is_digit, longer}
use Rattle.digits.proofs.DigitLaws.{no, big, more, longer?}
use Rattle.shift_line.specs.declared.Part.TheVariants.{ListDigits, Space, KeyDigits}
use Rattle.shift_line.specs.declared.Line.{Line}
use Rattle.shift_line.specs.declared.Reading.{Reading}
use Rattle.shift_line.specs.Lines.{all_digits, value_from, is_run, before, behind, parsed}
use Rattle.shift_line.specs.Reads.{blank, spoilt, numbered, stepped, read, entry_of}

-- a line that parses
abbrev reading : ℕ → ℕ → Option Reading
reading l n = Some (record { list = l; key = n })

-- a number only grows with more digits
value_grows : (n : ℕ) (bs : List ℕ) → n ≤ value_from n bs
value_grows n [] = omega arith
value_grows n (b ∷ bs) = let h = value_grows (n * 10 + (b - 48)) bs in omega (arith, h)

-- past the limit, whatever digits follow
past_limit : (n : ℕ) (bs : List ℕ) (x : Option Reading) → 4294967295 < n → cond (all_digits bs) (cond (leb (value_from n bs) 4294967295) x None) None ≡ None
past_limit n bs x h = by (all_digits bs)
  where
    by : (d : Bool) → cond d (cond (leb (value_from n bs) 4294967295) x None) None ≡ None
    by true = let g = value_grows n bs in rw (lt-leb (value_from n bs) 4294967295 (omega (arith, g))) refl
    by false = refl

spoilt-stays : (b : ℕ) → stepped spoilt b ≡ spoilt
unfolding stepped
spoilt-stays b = refl

spoilt_unread : (bs : List ℕ) → entry_of (read spoilt bs) ≡ None
unfolding entry_of
spoilt_unread [] = refl
spoilt_unread (b ∷ bs) = ap (λ line. entry_of (read line bs)) (spoilt-stays b) ∙ spoilt_unread bs

-- ---- the key's digits ----
abbrev in_key : ℕ → ℕ → Line
in_key l n = record { part = KeyDigits; list = l; number = n }

abbrev read_key : ℕ → ℕ → List ℕ → Option Reading
read_key l n bs = cond (all_digits bs) (cond (leb (value_from n bs) 4294967295) (reading l (value_from n bs)) None) None

key_step : (l n b : ℕ) → stepped (in_key l n) b ≡ numbered KeyDigits l (longer n b)
unfolding stepped
key_step l n b = refl

key_ends : (l n : ℕ) → entry_of (in_key l n) ≡ reading l n
unfolding entry_of
key_ends l n = refl

key_reads : (l n : ℕ) (bs : List ℕ) → n ≤ 4294967295 → entry_of (read (in_key l n) bs) ≡ read_key l n bs
key_reads l n [] h = rw (le-leb n 4294967295 h) (key_ends l n)
key_reads l n (b ∷ bs) h = elim (longer? n b) [
  | no d e ↦ rw (key_step l n b, e, d) (spoilt_unread bs)
  | big d g e ↦ rw (key_step l n b, e, d) (spoilt_unread bs ∙ sym (past_limit (n * 10 + (b - 48)) bs (reading l (value_from (n * 10 + (b - 48)) bs)) g))
  | more d g e ↦ rw (key_step l n b, e, d) (key_reads l (n * 10 + (b - 48)) bs g)
]

-- ---- the space ----
abbrev in_space : ℕ → Line
in_space l = record { part = Space; list = l; number = 0 }

-- the first digit of a key is as a further one behind 0
space_step : (l b : ℕ) → stepped (in_space l) b ≡ stepped (in_key l 0) b
unfolding stepped
space_step l b = refl

space_ends : (l : ℕ) → entry_of (in_space l) ≡ None
unfolding entry_of
space_ends l = refl

run-cond : (d : Bool) (m : Bool) (x : Option Reading) → cond d (cond m x None) None ≡ cond (cond d m false) x None
run-cond true m x = refl
run-cond false m x = refl

space_reads : (l : ℕ) (bs : List ℕ) → entry_of (read (in_space l) bs) ≡ cond (is_run bs) (reading l (value_from 0 bs)) None
space_reads l [] = space_ends l
space_reads l (b ∷ bs) =
    ap (λ line. entry_of (read line bs)) (space_step l b)
    ∙ key_reads l 0 (b ∷ bs) (omega arith)
    ∙ run-cond (all_digits (b ∷ bs)) (leb (value_from 0 (b ∷ bs)) 4294967295) (reading l (value_from 0 (b ∷ bs)))

-- ---- the list's digits ----
abbrev in_list : ℕ → Line
in_list n = record { part = ListDigits; list = 0; number = n }

abbrev read_list : ℕ → List ℕ → Option Reading
read_list n bs =
    cond (all_digits (before bs))
    (cond (leb (value_from n (before bs)) 4294967295)
    (cond (is_run (behind bs)) (reading (value_from n (before bs)) (value_from 0 (behind bs))) None)
    None)
    None

list_space : (n b : ℕ) → eqb b 32 ≡ true → stepped (in_list n) b ≡ in_space n
unfolding stepped
list_space n b e = rw e refl

list_step : (n b : ℕ) → eqb b 32 ≡ false → stepped (in_list n) b ≡ numbered ListDigits 0 (longer n b)
unfolding stepped
list_step n b e = rw e refl

list-ends : (n : ℕ) → entry_of (in_list n) ≡ None
unfolding entry_of
list-ends n = refl

list_reads : (n : ℕ) (bs : List ℕ) → n ≤ 4294967295 → entry_of (read (in_list n) bs) ≡ read_list n bs
list_reads n [] h = rw (le-leb n 4294967295 h) (list-ends n)
list_reads n (b ∷ bs) h = by (λ m k. list_reads m bs k) (eqb b 32) refl
  where
    by :
        ((m : ℕ) → m ≤ 4294967295 → entry_of (read (in_list m) bs) ≡ read_list m bs)
        → (s : Bool)
        → eqb b 32 ≡ s
        → entry_of (read (stepped (in_list n) b) bs) ≡ read_list n (b ∷ bs)
    by rest true e = rw (e, list_space n b e, le-leb n 4294967295 h) (space_reads n bs)
    by rest false e = elim (longer? n b) [
      | no d f ↦ rw (e, list_step n b e, f, d) (spoilt_unread bs)
      | big d g f ↦ rw (e, list_step n b e, f, d) (spoilt_unread bs ∙ sym (past_limit (n * 10 + (b - 48)) (before bs) _ g))
      | more d g f ↦ rw (e, list_step n b e, f, d) (rest (n * 10 + (b - 48)) g)
    ]

-- ---- a whole line ----
no_space : (b : ℕ) → eqb b 32 ≡ true → longer 0 b ≡ None
unfolding longer is_digit
no_space b e = rw (eqb-true b 32 e) refl

blank_step : (b : ℕ) → stepped blank b ≡ numbered ListDigits 0 (longer 0 b)
unfolding stepped
blank_step b = refl

blank-ends : entry_of blank ≡ None
unfolding entry_of
blank-ends = refl

pub line_parsed : (line : List ℕ) → entry_of (read blank line) ≡ parsed line
line_parsed [] = blank-ends
line_parsed (b ∷ bs) = by (eqb b 32) refl
  where
    by : (s : Bool) → eqb b 32 ≡ s → entry_of (read (stepped blank b) bs) ≡ parsed (b ∷ bs)
    by true e = rw (blank_step b, no_space b e, e) (spoilt_unread bs)
    by false e =
        ap (λ line. entry_of (read line bs)) (blank_step b ∙ sym (list_step 0 b e))
        ∙ list_reads 0 (b ∷ bs) (omega arith)
        ∙ rw e (run-cond (all_digits (b ∷ before bs)) (leb (value_from 0 (b ∷ before bs)) 4294967295) _)
