-- The front of a slice, word by word. Rests on Fronts.
use Prim.Native.Nat.{ℕ, zero, suc, ◌+◌, ◌≤◌, ◌<◌}
use mathlib.Core.Bool.{Bool, true, false}
use mathlib.Core.List.{[], List, ◌∷◌, ◌++◌}
use mathlib.Core.Path.{◌≡◌, refl, ap, ◌∙◌}
use lib.ListN.{length, take, drop, set, get_or, replicate, length-replicate, get_or-replicate}
use lib.Seq.{take_all}
use native.Mathlib.Numerals.{add-one}
use native.Mathlib.Omega.{arith}
use Rattle.lent.specs.Fronts.{over, Relent}

set_next :
    (front words : List ℕ) (i : ℕ)
    → i < length front
    → i < length words
    → set (take i front ++ drop i words) i (get_or front i 0) ≡ take (suc i) front ++ drop (suc i) words
set_next [] words i p q = absurd (omega arith)
set_next (f ∷ front) [] i p q = absurd (omega arith)
set_next (f ∷ front) (w ∷ words) zero p q = refl
set_next (f ∷ front) (w ∷ words) (suc i) p q = ap (λ (r : List ℕ). f ∷ r) (set_next front words i (omega arith) (omega arith))

module _ (words : List ℕ) where
  pub next_word :
      (front now : List ℕ) (i : ℕ)
      → i < length front
      → length front ≤ length words
      → now ≡ take i front ++ drop i words
      → set now i (get_or front i 0) ≡ take (i + 1) front ++ drop (i + 1) words
  next_word front now i p q e = rw (e, add-one) (set_next front words i p (omega arith))

  pub all_words : (front now : List ℕ) (i : ℕ) → i ≡ length front → now ≡ take i front ++ drop i words → now ≡ over front words
  all_words front now i e h = h ∙ rw (e, take_all (length front) front (omega arith))

  pub next-fill :
      (n v : ℕ) (now : List ℕ) (i : ℕ)
      → i < n
      → n ≤ length words
      → now ≡ take i (replicate n v) ++ drop i words
      → set now i v ≡ take (i + 1) (replicate n v) ++ drop (i + 1) words
  next-fill n v now i p q e =
      rw (get_or-replicate n i v 0 p) at
      (next_word (replicate n v) now i (simp length-replicate p) (simp length-replicate q) e)

  pub all-filled : (n v : ℕ) (now : List ℕ) (i : ℕ) → i ≡ n → now ≡ take i (replicate n v) ++ drop i words → now ≡ over (replicate n v) words
  all-filled n v now i e h = all_words (replicate n v) now i (simp length-replicate e) h

module _ {may : Bool} (front : List ℕ) (len : ℕ) (before : List ℕ) where
  pub new_lent : (after : List ℕ) (r : ℕ) → may ≡ true → r ≡ length front → after ≡ over front before → Relent may front len before after r
  new_lent after r e size words = record { size = rw e size; words = rw e words }

  pub old_lent : may ≡ false → Relent may front len before before len
  old_lent e = record { size = rw e; words = rw e }
