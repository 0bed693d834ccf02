-- What insertion and removal both read: the header's words of the free chain, and the last of a list; and that a record lies in the slice.
-- Rests on model's specs.
use Prim.Native.Nat.{ℕ, ◌<◌, ◌≤◌}
use mathlib.Core.Path.{◌≡◌, sym, ap, ◌∙◌}
use mathlib.Core.List.{List, [], ◌∷◌, ◌++◌}
use lib.ListN.{length, get_or}
use native.Mathlib.Nat.{mul-le-mul_right}
use native.Mathlib.Omega.{arith}
use Rattle.model.specs.Nodes.{Node}
use Rattle.model.specs.Arena.{first_free_word, free_word, width, first_free, last_slot}
use Rattle.model.specs.Passes.{decode, Passes}
use Rattle.model.proofs.Splitting.{last-joined}
use Rattle.arena.specs.RecordIn.{RecordIn}
use Rattle.arena.specs.Between.{Between}

pub first-is : (w : List ℕ) → Passes w → get_or w first_free_word 0 ≡ first_free (decode w).free
first-is w p = ap (λ (t : List ℕ). get_or t first_free_word 0) p.words

pub number_is : (w : List ℕ) → Passes w → get_or w free_word 0 ≡ length (decode w).free
number_is w p = ap (λ (t : List ℕ). get_or t free_word 0) p.words

-- a node that stands before another is not the last
pub last_new : (aa : List Node) (n : Node) (bb : List Node) → 0 < length bb → last_slot (aa ++ n ∷ bb) ≡ last_slot (aa ++ bb)
last_new aa n [] l = absurd (omega arith)
last_new aa n (b ∷ bb) l = last-joined aa (n ∷ b ∷ bb) (omega arith) ∙ sym (last-joined aa (b ∷ bb) (omega arith))

pub lies : {m n lo hi : ℕ} {f g : ℕ → List ℕ} {w : List ℕ} → m ≤ 16 → Between m n f g lo hi w → (s : ℕ) → s < n → RecordIn w m s
lies {m} sm x s l = record { small = sm; inside = omega (arith, x.size, mul-le-mul_right (width m) l) }
