-- A join before behind its links: the columns 3, 2, 1 and 0, one after the other, and the whole. Rests on JoinBefore and level_links' AfterLinks.
use Prim.Native.Nat.{ℕ, zero, suc, ◌+◌, ◌-◌, ◌<◌}
use mathlib.Core.Path.{◌≡◌, refl, sym, ap, ◌∙◌}
use mathlib.Core.Logic.{◌≢◌}
use mathlib.Core.List.{List, [], ◌∷◌}
use lib.ListN.{length, take, get_or, length-append}
use native.Mathlib.Omega.{arith}
use borrow.Author.Tests.{le-leb}
use Rattle.model.specs.Arena.{width, State, head_words, record_of, encode, slots_of}
use Rattle.model.specs.Cells.{Cell, cell_at, put_at}
use Rattle.model.specs.Links.{target, absent_link}
use Rattle.model.specs.Nodes.{Node, N, slot_at}
use Rattle.model.specs.Passes.{decode, nodes}
use Rattle.level_links.specs.OneLevel.{LinksDone}
use Rattle.join.specs.Joins.{Joins}
use Rattle.join_before.specs.Preceded.{do_join_before, next_before}
use Rattle.level_links.proofs.AfterLinks.{half, half-cell, head_was}
use Rattle.arena.proofs.Cells.{skip_down, one-stored}
use Rattle.arena.proofs.Relink.{Half, stored_col, col, all_done}
use Rattle.model.proofs.Splitting.{last-joined}
use Rattle.model.proofs.Hang.{Stage}
use Rattle.model.proofs.Owners.{field, Column, link_from, next-column}
use Rattle.model.proofs.Records.{head_words_lem}
use Rattle.model.proofs.Tests.{same, other, same?}
use Rattle.join_before.proofs.HeadMoves.{head_moved}
use Rattle.join_before.proofs.JoinBefore.{lists_T, stays_0, stays_1, stays_3, head_a, head_b, head_moves}
use Rattle.join.proofs.JoinColumns.{end-stage}
use Rattle.join.proofs.JoinLinks.{H, few, b_in}

-- a fact of one field
alone : (P : ℕ → Type 0) → P 0 → (j : ℕ) → j < 1 → P j
alone P x zero l = x
alone P x (suc j) l = absurd (omega arith)

module _ {w₀ : List ℕ} {m a b : ℕ} (p : Joins w₀ m b a) {w : List ℕ} (g : LinksDone w₀ (do_join_before (decode w₀) a b) m w) where
  abbrev S : State
  S = decode w₀

  abbrev T : State
  T = do_join_before S a b

  abbrev A : List Node
  A = nodes w₀ a

  abbrev B : List Node
  B = nodes w₀ b

  -- the columns from lo on are done
  abbrev Done : ℕ → List ℕ → Type 0
  Done lo u = Half S T (take 8 w₀) m lo u

  bn : b < slots_of S
  bn = omega (arith, p.onto.list)

  cell : (s c : ℕ) → s < slots_of S → c < 4 → {u : List ℕ} → length u ≡ length w → Cell u m s c
  cell s c l k e =
      let x = half-cell p.onto (half g) s c l k in
      record { small = x.small; column = x.column; inside = omega (arith, x.inside) }

  pub head_cells : (c : ℕ) → c < 4 → {u : List ℕ} → length u ≡ length w → Cell u m a c × Cell u m b c
  head_cells c k e = (cell a c (b_in p) k e, cell b c bn k e)

  -- a word of the head of list a that is still as it was
  was : (c : ℕ) → c < 4 → {v : ℕ} → v ≡ cell_at m w a c → v ≡ get_or (head_words S.levels A) c 0
  was c k e = head_was p.from (half g) c k k e

  pub count_fits : {n k : ℕ} → n ≡ length B → k ≡ cell_at m w a 0 → n + k < 4294967296
  count_fits en ek = omega (arith, (few p).0, (few p).1, was 0 (omega arith) ek)

  -- a's last node stays its last
  col_3 : {u : List ℕ} → u ≡ put_at m w b 3 N → Done 3 u
  col_3 e =
      let old : (i : ℕ) → i < slots_of S → cell_at m w i 3 ≡ get_or (record_of S i) 3 0 = λ i l. g.between.below i 3 l (omega arith) (omega arith) in
      let last : get_or (record_of S a) 3 0 ≡ get_or (record_of T a) 3 0
      = ap (λ (R : List ℕ). get_or R 3 0) (head_words_lem S a p.from.list) ∙ sym (ap (λ (R : List ℕ). get_or R 3 0) (head_a p) ∙ last-joined B A p.some) in
      let kept : (i : ℕ) → i < slots_of S → i ≢ b → cell_at m w i 3 ≡ get_or (record_of T i) 3 0
      = λ i l nb. elim (same? i a) [ same x q ↦ rw q (old a (b_in p) ∙ last) | other x q ↦ old i l ∙ sym (stays_3 p i l q nb) ] in
      let stored = one-stored m (slots_of S) (record_of T) w g.between.size 3 (omega arith) b N bn kept (ap (λ (R : List ℕ). get_or R 3 0) (head_b p)) in
      stored_col (rw e stored) (omega arith) (half g)

  -- slot e is the end of list b
  module _ {e : ℕ} (ee : e ≡ slot_at b B (length B)) where
    st : Stage (H p) 0 e (length B)
    st = end-stage p ee

    pub next_cells : {u : List ℕ} → length u ≡ length w → Cell u m e 2 × Cell u m a 2 × Cell u m b 2
    next_cells q = (cell e 2 st.known (omega arith) q, cell a 2 (b_in p) (omega arith) q, cell b 2 bn (omega arith) q)

    -- n is the length of b; k and f are read of a: its length and first slot
    module _ {n k f : ℕ} (en : n ≡ length B) (ek : k ≡ cell_at m w a 0) (ef : f ≡ cell_at m w a 2) where
      col_2 : {v u : List ℕ} → Done 3 v → u ≡ next_before m v e f a b → Done 2 u
      col_2 {v} h eu =
          let next = next-column S.levels in
          let f-is : f ≡ target 0 A = was 2 (omega arith) ef ∙ next.head A ∙ (rw (le-leb 0 S.levels (omega arith)) refl) in
          let moves = head_moves p st (omega arith) 2 (f ∷ []) (N ∷ []) (alone (λ j. Column S.levels (2 + j) (field j 0)) next)
          (alone (λ j. get_or (f ∷ []) j 0 ≡ get_or (link_from (length B - length B) 0 A) j 0) f-is)
          (alone (λ j. get_or (N ∷ []) j 0 ≡ get_or absent_link j 0) refl) in
          let x = put_at m v e 2 f in
          let stored = head_moved moves st.known (b_in p) bn m (omega arith) v h.between.size
          (λ i j l q. h.between.below i (2 + j) l (omega arith) (omega arith)) (cell_at m x b 2 ∷ []) refl refl
          (alone (λ j. get_or (cell_at m x b 2 ∷ []) j 0 ≡ cell_at m x b (2 + j)) refl) in
          stored_col (rw eu stored) (omega arith) h

      col_1 : {u : List ℕ} → Done 2 u → Done 1 u
      col_1 {u} h = record {
        front = h.front;
        between = skip_down m (slots_of S) (record_of T) (record_of S) u 1 2 (width m) (omega arith) refl (omega arith)
            (λ i l. elim (same? i a) [ same x q ↦ rw (q, head_a p, head_words_lem S a p.from.list) refl | other x q ↦ stays_1 p i l q ]) h.between;
      }

      col_0 : {v u : List ℕ} → Done 2 v → u ≡ put_at m (put_at m v a 0 (n + k)) b 0 0 → Done 0 u
      col_0 h =
          let sum : get_or (record_of T a) 0 0 ≡ n + k = ap (λ (R : List ℕ). get_or R 0 0) (head_a p) ∙ length-append B A ∙ omega (arith, was 0 (omega arith) ek) in
          col 0 (omega arith) (col_1 h) a (n + k) b 0 (b_in p) bn (stays_0 p) sum (ap (λ (R : List ℕ). get_or R 0 0) (head_b p))

      pub before-done : {w₃ w₂ x : List ℕ} → w₃ ≡ put_at m w b 3 N → w₂ ≡ next_before m w₃ e f a b → x ≡ put_at m (put_at m w₂ a 0 (n + k)) b 0 0 → x ≡ encode T
      before-done {w₃} {w₂} {x} e₃ e₂ e₀ =
          let done = col_0 (col_2 (col_3 e₃) e₂) e₀ in
          all_done S T refl (omega (arith, lists_T p)) m p.onto.levels x done.between
          (done.front ∙ ap (take 8) p.onto.passes.words ∙ (rw (lists_T p) refl))
