-- A line of which a byte was read is begun. Rests on Reads.
use Prim.Native.Nat.{ℕ}
use mathlib.Core.Path.{◌≡◌, refl, sym, ap, ◌∙◌}
use mathlib.Core.Logic.{◌≢◌}
use mathlib.Core.Bool.{Bool, true, false, cond, false≢true}
use mathlib.Core.List.{List, [], ◌∷◌}
use lib.Dec.{eqb}
use Rattle.std.specs.Prelude.{Option, Some, None}
use Rattle.digits.specs.Digits.{longer}
use Rattle.shift_line.specs.declared.Part.{Part}
use Rattle.shift_line.specs.declared.Part.TheVariants.{Nothing, ListDigits, Space, KeyDigits, Spoilt}
use Rattle.shift_line.specs.declared.Line.{Line}
use Rattle.shift_line.specs.Reads.{numbered, digited, stepped_in, stepped, read}

abbrev is_begun : Part → Bool
is_begun Nothing = false
is_begun ListDigits = true
is_begun Space = true
is_begun KeyDigits = true
is_begun Spoilt = true

numbered-begun : (part : Part) (list : ℕ) (n : Option ℕ) → is_begun part ≡ true → is_begun (numbered part list n).part ≡ true
numbered-begun part list (Some n) e = e
numbered-begun part list None e = refl

step_begun : (line : Line) (b : ℕ) → is_begun (stepped line b).part ≡ true
unfolding stepped
step_begun line b = by line.part
  where
    in_list : is_begun (digited ListDigits line b).part ≡ true
    in_list = numbered-begun ListDigits line.list (longer line.number b) refl

    in_key_lem : is_begun (digited KeyDigits line b).part ≡ true
    in_key_lem = numbered-begun KeyDigits line.list (longer line.number b) refl

    spaced : (s : Bool) → is_begun (cond s (record { part = Space; list = line.number; number = 0 }) (digited ListDigits line b)).part ≡ true
    spaced true = refl
    spaced false = in_list

    by : (p : Part) → is_begun (stepped_in p line b).part ≡ true
    by Nothing = in_list
    by ListDigits = spaced (eqb b 32)
    by Space = in_key_lem
    by KeyDigits = in_key_lem
    by Spoilt = refl

read-begun : (line : Line) (b : ℕ) (bs : List ℕ) → is_begun (read line (b ∷ bs)).part ≡ true
read-begun line b [] = step_begun line b
read-begun line b (c ∷ bs) = read-begun (stepped line b) c bs

not_begun : (p : Part) → is_begun p ≡ true → p ≢ Nothing
not_begun p e n = false≢true (sym (ap is_begun n) ∙ e)

pub begun : (line : Line) (b : ℕ) (bs : List ℕ) → (read line (b ∷ bs)).part ≢ Nothing
begun line b bs = not_begun _ (read-begun line b bs)
