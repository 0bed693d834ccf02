-- Words whose links are done, and of whose columns 3 to 0 the lower ones are still as they were: what they say, whatever the operation.
-- Rests on arena's Relink.
use Prim.Native.Nat.{ℕ, ◌≤◌, ◌<◌}
use mathlib.Core.Path.{◌≡◌, sym, ap, ◌∙◌}
use mathlib.Core.List.{List}
use lib.ListN.{length, take, get_or}
use native.Mathlib.Nat.{le_antisymm}
use native.Mathlib.Omega.{arith}
use Rattle.arena.specs.Owners.{Listed}
use Rattle.model.specs.Arena.{State, head_words, slots_of}
use Rattle.model.specs.Cells.{Cell, cell_at}
use Rattle.model.specs.Passes.{decode, nodes}
use Rattle.arena.proofs.Relink.{Relinked, Half, relink_start, there}
use Rattle.model.proofs.Records.{head_words_lem}
use Rattle.level_links.specs.OneLevel.{LinksDone}

-- every level is done
pub links_done : {w₀ : List ℕ} {T : State} {m l : ℕ} {w : List ℕ} → Relinked (decode w₀) T (take 8 w₀) m l w → l ≤ m → m ≤ l → LinksDone w₀ T m w
links_done g j k = let e = le_antisymm j k in record { front = g.front; between = rw e at g.between }

pub half : {w₀ : List ℕ} {T : State} {m : ℕ} {w : List ℕ} → LinksDone w₀ T m w → Half (decode w₀) T (take 8 w₀) m 4 w
half g = record { front = g.front; between = g.between }

module _ {w₀ : List ℕ} {m a : ℕ} (p : Listed w₀ m a) {T : State} where
  pub relinked_size : {l : ℕ} {w : List ℕ} → Relinked (decode w₀) T (take 8 w₀) m l w → length w ≡ length w₀
  relinked_size g = g.between.size ∙ sym (relink_start w₀ p.passes T m p.levels).between.size

  module _ {lo : ℕ} {w : List ℕ} (g : Half (decode w₀) T (take 8 w₀) m lo w) where
    pub half-cell : (s c : ℕ) → s < slots_of (decode w₀) → c < 4 → Cell w m s c
    half-cell s c l k = there m (slots_of (decode w₀)) (omega (arith, p.levels, p.passes.sizes.levels_most)) w g.between s c l (omega arith)

    -- a word of the head of list a that is still as it was
    pub head_was : (c : ℕ) → c < 4 → c < lo → {v : ℕ} → v ≡ cell_at m w a c → v ≡ get_or (head_words (decode w₀).levels (nodes w₀ a)) c 0
    head_was c k l e = e ∙ g.between.below a c (omega (arith, p.list)) (omega arith) l ∙ ap (λ (R : List ℕ). get_or R c 0) (head_words_lem (decode w₀) a p.list)
