-- The first and the last node of a list, as its head and their records say them. Rests on arena's Cells and model's Records.
use Prim.Native.Nat.{ℕ, suc, ◌-◌, ◌<◌}
use mathlib.Core.Path.{◌≡◌, refl, sym, ap, ◌∙◌}
use mathlib.Core.List.{List, [], ◌∷◌, ◌++◌}
use lib.ListN.{length, take, drop, get_or}
use lib.Seq.{split_at}
use native.Mathlib.Omega.{arith}
use Rattle.model.specs.Nodes.{Node, node, N, at}
use Rattle.model.specs.Lists.{last_key}
use Rattle.model.specs.Arena.{State, first_slot, last_slot, head_words, node_words, record_of, slots_of}
use Rattle.model.specs.Cells.{Cell, cell_at}
use Rattle.model.specs.Passes.{decode, nodes}
use Rattle.arena.specs.Between.{Between}
use Rattle.arena.specs.Owners.{Listed}
use Rattle.arena.proofs.Cells.{between_start, cell-is}
use Rattle.arena.proofs.Relink.{there}
use Rattle.model.proofs.Records.{head_words_lem, node_words_lem, slot_of}

first-slot : (ys : List Node) → 0 < length ys → first_slot ys ≡ (at ys 0).slot
first-slot [] l = absurd (omega arith)
first-slot (y ∷ ys) l = refl

last-slot : (y : Node) (ys : List Node) → last_slot (y ∷ ys) ≡ (at (y ∷ ys) (length ys)).slot
last-slot y [] = refl
last-slot y (z ∷ ys) = last-slot z ys

last_key_lem : (y : Node) (ys : List Node) → last_key (y ∷ ys) ≡ (at (y ∷ ys) (length ys)).key
last_key_lem y [] = refl
last_key_lem y (z ∷ ys) = last_key_lem z ys

-- a fact of the index behind the first node, for a list that is not empty
at_last : (P : List Node → ℕ → Type 0) → ((y : Node) (ys : List Node) → P (y ∷ ys) (length ys)) → (ys : List Node) → 0 < length ys → P ys (length ys - 1)
at_last P h [] l = absurd (omega arith)
at_last P h (y ∷ ys) l = let e : length (y ∷ ys) - 1 ≡ length ys = omega arith in rw e (h y ys)

module _ {w : List ℕ} {m a : ℕ} (p : Listed w m a) where
  abbrev S : State
  S = decode w

  abbrev xs : List Node
  xs = nodes w a

  cell_in : (s c : ℕ) → s < slots_of S → c < 4 → Cell w m s c
  cell_in s c l k =
      let x : Between m (slots_of S) (record_of S) (record_of S) 0 0 w = rw p.levels (between_start w p.passes (record_of S) 0) in
      there m (slots_of S) (omega (arith, p.levels, p.passes.sizes.levels_most)) w x s c l (omega arith)

  word_is : (s c : ℕ) → s < slots_of S → c < 4 → cell_at m w s c ≡ get_or (record_of S s) c 0
  word_is s c l k = ap (λ (z : ℕ). cell_at z w s c) p.levels ∙ cell-is w p.passes s c l (omega arith)

  -- ---- the head ----
  pub head_cell : (c : ℕ) → c < 4 → Cell w m a c
  head_cell c k = cell_in a c (omega (arith, p.list)) k

  head_word : (c : ℕ) → c < 4 → cell_at m w a c ≡ get_or (head_words S.levels xs) c 0
  head_word c k = word_is a c (omega (arith, p.list)) k ∙ ap (λ (R : List ℕ). get_or R c 0) (head_words_lem S a p.list)

  pub first-is : 0 < length xs → {s : ℕ} → s ≡ cell_at m w a 2 → s ≡ (at xs 0).slot
  first-is l e = e ∙ head_word 2 (omega arith) ∙ first-slot xs l

  pub last-is : 0 < length xs → {s : ℕ} → s ≡ cell_at m w a 3 → s ≡ (at xs (length xs - 1)).slot
  last-is l e = e ∙ head_word 3 (omega arith) ∙ at_last (λ ys i. last_slot ys ≡ (at ys i).slot) last-slot xs l

  -- ---- the node at index i, whose slot is s ----
  module _ {i s : ℕ} (l : i < length xs) (e : s ≡ (at xs i).slot) where
    mid : nodes w a ≡ take i xs ++ at xs i ∷ drop (suc i) xs
    mid = split_at xs i (node N 0 0) l

    s_in : s < slots_of S
    s_in = rw e (slot_of S p.passes.sound a (take i xs) (at xs i) (drop (suc i) xs) mid).1

    pub node-cell : (c : ℕ) → c < 4 → Cell w m s c
    node-cell c k = cell_in s c s_in k

    pub node_word : (c : ℕ) → c < 4 → {v : ℕ} → v ≡ cell_at m w s c → v ≡ get_or (node_words S.levels (at xs i) (drop (suc i) xs)) c 0
    node_word c k q =
        q ∙ word_is s c s_in k ∙ ap (λ (z : ℕ). get_or (record_of S z) c 0) e
        ∙ ap (λ (R : List ℕ). get_or R c 0) (node_words_lem S p.passes.sound a (take i xs) (at xs i) (drop (suc i) xs) p.list mid)

  pub last_key_is : 0 < length xs → {s : ℕ} → s ≡ (at xs (length xs - 1)).slot → {k : ℕ} → k ≡ cell_at m w s 0 → k ≡ last_key xs
  last_key_is l e q = node_word (omega arith) e 0 (omega arith) q ∙ sym (at_last (λ ys i. last_key ys ≡ (at ys i).key) last_key_lem xs l)
