-- A split behind its links: the columns 3, 2, 1 and 0, one after the other, and the whole. Rests on SplitLinks and level_links' AfterLinks.
use Prim.Native.Nat.{ℕ, ◌-◌, ◌<◌}
use mathlib.Core.Path.{◌≡◌, refl, sym, ap, ◌∙◌}
use mathlib.Core.Bool.{cond}
use mathlib.Core.List.{List, append-nil}
use lib.Dec.{eqb}
use lib.ListN.{length, take, drop, get_or, length-drop, drop_of_length-le}
use native.Mathlib.Omega.{arith}
use borrow.Author.Tests.{le-leb}
use Rattle.model.specs.Arena.{width, State, last_slot, head_words, record_of, encode, slots_of}
use Rattle.model.specs.Calls.{do_split}
use Rattle.model.specs.Cells.{Cell, cell_at, put_at}
use Rattle.model.specs.Nodes.{Node, N, slot_at}
use Rattle.model.specs.Passes.{decode, nodes}
use Rattle.level_links.specs.OneLevel.{LinksDone}
use Rattle.split.specs.Splits.{Splits}
use Rattle.level_links.proofs.AfterLinks.{half, half-cell, head_was}
use Rattle.arena.proofs.Cells.{skip_down}
use Rattle.arena.proofs.Relink.{Half, col, relink_end}
use Rattle.model.proofs.Hang.{Stage, same_0, same_1, same_3, head_T}
use Rattle.model.proofs.Owners.{next-column}
use Rattle.model.proofs.Splitting.{b-S, b-T, last-slot-take, last-drop}
use Rattle.model.proofs.Tests.{same, other, same?}
use Rattle.model.proofs.Walk.{last-zero}
use Rattle.split.proofs.SplitLinks.{like, H, b_in, length-A, stage_of}

module _ {w₀ : List ℕ} {m a b i : ℕ} (p : Splits w₀ m a b i) {w : List ℕ} (g : LinksDone w₀ (do_split (decode w₀) a b i) m w) where
  abbrev S : State
  S = decode w₀

  abbrev T : State
  T = do_split S a b i

  abbrev xs : List Node
  xs = nodes w₀ a

  -- the columns from lo on are done
  abbrev Done : ℕ → List ℕ → Type 0
  Done lo u = Half S T (take 8 w₀) m lo u

  a_in : a < slots_of S
  a_in = omega (arith, p.from.list)

  cell : (s c : ℕ) → s < slots_of S → c < 4 → {u : List ℕ} → length u ≡ length w → Cell u m s c
  cell s c l k e =
      let x = half-cell p.from (half g) s c l k in
      record { small = x.small; column = x.column; inside = omega (arith, x.inside) }

  pub head_cells : (c : ℕ) → c < 4 → {u : List ℕ} → length u ≡ length w → Cell u m a c × Cell u m b c
  head_cells c k e = (cell a c a_in k e, cell b c (b_in p) k e)

  new_a : (c : ℕ) → get_or (record_of T a) c 0 ≡ get_or (head_words S.levels (take i xs)) c 0
  new_a c = ap (λ (R : List ℕ). get_or R c 0) (head_T (H p) ∙ ap (head_words S.levels) (append-nil (take i xs)))

  new_b : (c : ℕ) → get_or (record_of T b) c 0 ≡ get_or (head_words S.levels (drop i xs)) c 0
  new_b c = ap (λ (R : List ℕ). get_or R c 0) (b-T (like p))

  pub count_is : {n : ℕ} → n ≡ cell_at m w a 0 → n ≡ length xs
  count_is e = head_was p.from (half g) 0 (omega arith) (omega arith) e

  -- slot e stands just before index i
  module _ {e : ℕ} (ee : e ≡ slot_at a xs i) where
    st : Stage (H p) 0 e i
    st = stage_of p 0 e i (omega arith) (sym (last-zero (take i xs) ∙ length-A p)) ee

    pub end_cells : {u : List ℕ} → length u ≡ length w → Cell u m e 2 × Cell u m b 2
    end_cells q = (cell e 2 st.known (omega arith) q, cell b 2 (b_in p) (omega arith) q)

    last-a : {k : ℕ} → k ≡ cond (eqb i 0) N e → k ≡ last_slot (take i xs)
    last-a ek = elim (same? i 0) [
      | same x q ↦ (rw x at ek) ∙ (rw q refl)
      | other x q ↦ (rw x at ek) ∙ ee ∙ sym (last-slot-take a i xs p.within q)
    ]

    -- n, f and z are read: the length, the slot at index i, the last slot
    module _ {n f z : ℕ} (en : n ≡ cell_at m w a 0) (ef : f ≡ cell_at m w e 2) (ez : z ≡ cell_at m w a 3) where
      last-b : {k : ℕ} → k ≡ cond (eqb (n - i) 0) N z → k ≡ last_slot (drop i xs)
      last-b ek = elim (same? (n - i) 0) [
        | same x q ↦ (rw x at ek) ∙ sym (ap last_slot (drop_of_length-le xs {i = i} (omega (arith, count_is en))))
        | other x q ↦ (rw x at ek) ∙ head_was p.from (half g) 3 (omega arith) (omega arith) ez ∙ sym (last-drop xs i (omega (arith, p.within, q, count_is en)))
      ]

      col_3 : {ka kb : ℕ} → ka ≡ cond (eqb i 0) N e → kb ≡ cond (eqb (n - i) 0) N z → {u : List ℕ} → u ≡ put_at m (put_at m w a 3 ka) b 3 kb → Done 3 u
      col_3 {ka} {kb} ea eb =
          col 3 (omega arith) (half g) a ka b kb a_in (b_in p) (same_3 (H p)) (new_a 3 ∙ sym (last-a ea)) (new_b 3 ∙ sym (last-b eb))

      col_2 : {v u : List ℕ} → Done 3 v → u ≡ put_at m (put_at m v e 2 N) b 2 f → Done 2 u
      col_2 h =
          let next = next-column S.levels in
          let f-is = ef ∙ g.between.below e 2 st.known (omega arith) (omega arith) ∙ st.old 2 0 next in
          col 2 (omega arith) h e N b f st.known (b_in p) (st.same 2 0 next) (st.new 2 0 next)
          (new_b 2 ∙ next.head (drop i xs) ∙ (rw (le-leb 0 S.levels (omega arith)) (sym f-is)))

      col_1 : {u : List ℕ} → Done 2 u → Done 1 u
      col_1 {u} h = record {
        front = h.front;
        between = skip_down m (slots_of S) (record_of T) (record_of S) u 1 2 (width m) (omega arith) refl (omega arith)
            (λ s l. elim (same? s b) [ same x q ↦ rw (q, b-T (like p), b-S (like p)) refl | other x q ↦ same_1 (H p) s l q ]) h.between;
      }

      col_0 : {v u : List ℕ} → Done 2 v → u ≡ put_at m (put_at m v a 0 i) b 0 (n - i) → Done 0 u
      col_0 h =
          col 0 (omega arith) (col_1 h) a i b (n - i) a_in (b_in p) (same_0 (H p)) (new_a 0 ∙ length-A p)
          (new_b 0 ∙ length-drop i xs ∙ ap (λ (k : ℕ). k - i) (sym (count_is en)))

      pub split_done : {ka kb : ℕ} → ka ≡ cond (eqb i 0) N e → kb ≡ cond (eqb (n - i) 0) N z → {w₃ w₂ x : List ℕ}
          → w₃ ≡ put_at m (put_at m w a 3 ka) b 3 kb → w₂ ≡ put_at m (put_at m w₃ e 2 N) b 2 f → x ≡ put_at m (put_at m w₂ a 0 i) b 0 (n - i) → x ≡ encode T
      split_done ea eb e₃ e₂ e₀ =
          let done = col_0 (col_2 (col_3 ea eb e₃) e₂) e₀ in
          relink_end (H p) m p.from.levels _ done.between (done.front ∙ ap (take 8) p.from.passes.words ∙ (rw (H p).lists refl))
