-- A join behind its links: the columns 3, 2, 1 and 0, one after the other, and the whole. Rests on JoinLinks and level_links' AfterLinks.
use Prim.Native.Nat.{ℕ, ◌+◌, ◌<◌}
use mathlib.Core.Path.{◌≡◌, refl, sym, ap, ◌∙◌}
use mathlib.Core.List.{List, [], ◌++◌}
use lib.ListN.{length, take, get_or, length-append}
use lib.Seq.{length-take-le}
use native.Mathlib.Omega.{arith}
use borrow.Author.Tests.{le-leb}
use Rattle.model.specs.Arena.{width, State, head_words, record_of, encode, slots_of}
use Rattle.model.specs.Closed.{do_join}
use Rattle.model.specs.Cells.{Cell, cell_at, put_at}
use Rattle.model.specs.Links.{target}
use Rattle.model.specs.Nodes.{Node, N, slot_at}
use Rattle.model.specs.Passes.{decode, nodes}
use Rattle.level_links.specs.OneLevel.{LinksDone}
use Rattle.join.specs.Joins.{Joins}
use Rattle.level_links.proofs.AfterLinks.{half, half-cell, head_was}
use Rattle.arena.proofs.Cells.{skip_down}
use Rattle.arena.proofs.Relink.{Half, col, relink_end}
use Rattle.model.proofs.Hang.{Stage, same_0, same_1, same_3, head_T}
use Rattle.model.proofs.Owners.{next-column}
use Rattle.model.proofs.Splitting.{last-joined, b-S, b-T}
use Rattle.model.proofs.Tests.{same, other, same?}
use Rattle.model.proofs.Walk.{last-zero}
use Rattle.join.proofs.JoinLinks.{like, H, few, b_in, stage_of}

module _ {w₀ : List ℕ} {m a b : ℕ} (p : Joins w₀ m a b) where
  -- the slot at the end of list a
  pub end-stage : {e : ℕ} → e ≡ slot_at a (nodes w₀ a) (length (nodes w₀ a)) → Stage (H p) 0 e (length (nodes w₀ a))
  end-stage {e} ee =
      let A = nodes w₀ a in
      stage_of p 0 e (length A) (omega arith) (sym (last-zero (take (length A) A) ∙ length-take-le (length A) A (omega arith))) ee

module _ {w₀ : List ℕ} {m a b : ℕ} (p : Joins w₀ m a b) {w : List ℕ} (g : LinksDone w₀ (do_join (decode w₀) a b) m w) where
  abbrev S : State
  S = decode w₀

  abbrev T : State
  T = do_join S a b

  abbrev A : List Node
  A = nodes w₀ a

  abbrev B : List Node
  B = nodes w₀ b

  -- the columns from lo on are done
  abbrev Done : ℕ → List ℕ → Type 0
  Done lo u = Half S T (take 8 w₀) m lo u

  a_in : a < slots_of S
  a_in = omega (arith, p.onto.list)

  cell : (s c : ℕ) → s < slots_of S → c < 4 → {u : List ℕ} → length u ≡ length w → Cell u m s c
  cell s c l k e =
      let x = half-cell p.onto (half g) s c l k in
      record { small = x.small; column = x.column; inside = omega (arith, x.inside) }

  pub head_cells : (c : ℕ) → c < 4 → {u : List ℕ} → length u ≡ length w → Cell u m a c × Cell u m b c
  head_cells c k e = (cell a c a_in k e, cell b c (b_in p) k e)

  new_a : (c : ℕ) → get_or (record_of T a) c 0 ≡ get_or (head_words S.levels (A ++ B)) c 0
  new_a c = ap (λ (R : List ℕ). get_or R c 0) (head_T (H p))

  new_b : (c : ℕ) → get_or (record_of T b) c 0 ≡ get_or (head_words S.levels []) c 0
  new_b c = ap (λ (R : List ℕ). get_or R c 0) (b-S (like p))

  -- a word of the head of list b that is still as it was
  was : (c : ℕ) → c < 4 → {v : ℕ} → v ≡ cell_at m w b c → v ≡ get_or (head_words S.levels B) c 0
  was c k e = head_was p.from (half g) c k k e

  pub count_fits : {n k : ℕ} → n ≡ length A → k ≡ cell_at m w b 0 → n + k < 4294967296
  count_fits en ek = omega (arith, (few p).0, (few p).1, was 0 (omega arith) ek)

  -- slot e is the end of list a
  module _ {e : ℕ} (ee : e ≡ slot_at a A (length A)) where
    st : Stage (H p) 0 e (length A)
    st = end-stage p ee

    pub end_cells : {u : List ℕ} → length u ≡ length w → Cell u m e 2 × Cell u m b 2
    end_cells q = (cell e 2 st.known (omega arith) q, cell b 2 (b_in p) (omega arith) q)

    -- n is the length of a; k, f and z are read of b: its length, first and last slot
    module _ {n k f z : ℕ} (en : n ≡ length A) (ek : k ≡ cell_at m w b 0) (ef : f ≡ cell_at m w b 2) (ez : z ≡ cell_at m w b 3) where
      col_3 : {u : List ℕ} → u ≡ put_at m (put_at m w a 3 z) b 3 N → Done 3 u
      col_3 =
          col 3 (omega arith) (half g) a z b N a_in (b_in p) (same_3 (H p)) (new_a 3 ∙ last-joined A B p.some ∙ sym (was 3 (omega arith) ez)) (new_b 3)

      col_2 : {v u : List ℕ} → Done 3 v → u ≡ put_at m (put_at m v e 2 f) b 2 N → Done 2 u
      col_2 h =
          let next = next-column S.levels in
          let f-is : f ≡ target 0 B = was 2 (omega arith) ef ∙ next.head B ∙ (rw (le-leb 0 S.levels (omega arith)) refl) in
          col 2 (omega arith) h e f b N st.known (b_in p) (st.same 2 0 next) (st.new 2 0 next ∙ sym f-is) (new_b 2)

      col_1 : {u : List ℕ} → Done 2 u → Done 1 u
      col_1 {u} h = record {
        front = h.front;
        between = skip_down m (slots_of S) (record_of T) (record_of S) u 1 2 (width m) (omega arith) refl (omega arith)
            (λ s l. elim (same? s b) [ same x q ↦ rw (q, b-T (like p), b-S (like p)) refl | other x q ↦ same_1 (H p) s l q ]) h.between;
      }

      col_0 : {v u : List ℕ} → Done 2 v → u ≡ put_at m (put_at m v a 0 (n + k)) b 0 0 → Done 0 u
      col_0 h =
          col 0 (omega arith) (col_1 h) a (n + k) b 0 a_in (b_in p) (same_0 (H p))
          (new_a 0 ∙ length-append A B ∙ omega (arith, was 0 (omega arith) ek)) (new_b 0)

      pub join-done : {w₃ w₂ x : List ℕ} → w₃ ≡ put_at m (put_at m w a 3 z) b 3 N → w₂ ≡ put_at m (put_at m w₃ e 2 f) b 2 N
          → x ≡ put_at m (put_at m w₂ a 0 (n + k)) b 0 0 → x ≡ encode T
      join-done e₃ e₂ e₀ =
          let done = col_0 (col_2 (col_3 e₃) e₂) e₀ in
          relink_end (H p) m p.onto.levels _ done.between (done.front ∙ ap (take 8) p.onto.passes.words ∙ (rw (H p).lists refl))
