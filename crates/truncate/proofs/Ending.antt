-- The list ends at its n-th node: the loop of `end_links`, then the columns 3, 2 and 0. Rests on Shortened, UntilFreed and arena's Relink.
use Prim.Native.Nat.{ℕ, suc, ◌+◌, ◌≤◌, ◌<◌}
use mathlib.Core.Path.{◌≡◌, refl, sym, ap, ◌∙◌, subst}
use mathlib.Core.Bool.{cond}
use mathlib.Core.List.{List, [], append-nil}
use lib.Dec.{eqb}
use lib.ListN.{length, take, drop, get_or}
use lib.Seq.{length-take-le}
use native.Mathlib.Nat.{le_antisymm}
use native.Mathlib.Omega.{arith}
use Rattle.model.specs.Arena.{width, to_column, State, head_words, record_of, slots_of}
use Rattle.model.specs.Calls.{do_truncate}
use Rattle.model.specs.Cells.{Cell, put_at}
use Rattle.model.specs.Links.{link_words, absent_link}
use Rattle.model.specs.Nodes.{Node, N, slot_at}
use Rattle.model.specs.Passes.{decode, nodes, times}
use Rattle.model.specs.Closed.{last}
use Rattle.model.proofs.Hang.{InA, its_head, Hangs, Stage, stage_is, same_0, same_1, same_3, head_T}
use Rattle.model.proofs.Owners.{field, Column, link_column, next-column}
use Rattle.model.proofs.Splitting.{slot-take, last-slot-take}
use Rattle.model.proofs.Tests.{same, other, same?}
use Rattle.model.proofs.Walk.{last_le, last-zero}
use Rattle.arena.specs.Linked.{LinkIn, put_link}
use Rattle.arena.specs.Between.{Between}
use Rattle.arena.specs.Owners.{slot_in, rank_in, Before, NodeThere}
use Rattle.arena.specs.declared.Slot.{Slot}
use Rattle.arena.specs.declared.Rank.{Rank}
use Rattle.arena.proofs.Cells.{put_front, one_down, skip_down, between_start}
use Rattle.arena.proofs.Relink.{there, link_there, link_up, link_front}
use Rattle.truncate.specs.Truncation.{until_freed, Unlinked}
use Rattle.truncate.proofs.UntilFreed.{as_new, differs_at}
use Rattle.truncate.proofs.Shortened.{hangs, stays}

module _ {w₀ : List ℕ} {m a n : ℕ} (p : NodeThere w₀ m a n) where
  abbrev S : State
  S = decode w₀

  abbrev T : State
  T = do_truncate S a n

  abbrev xs : List Node
  xs = nodes w₀ a

  abbrev A : List Node
  A = take n xs

  abbrev B : List Node
  B = drop n xs

  abbrev R : ℕ → List ℕ
  R = until_freed S T B

  pub H : Hangs S T a (λ s. 1 ≤ times s B) A B []
  H = hangs S p.listed.passes.sound a n p.listed.list

  pub small : m ≤ 16
  small = omega (arith, p.listed.levels, p.listed.passes.sizes.levels_most)

  length-A : length A ≡ n
  length-A = length-take-le n xs (omega (arith, p.index))

  stage_of : (h s r : ℕ) → h ≤ m → r ≡ last h A → s ≡ slot_at a xs r → Stage H h s r
  stage_of h s r l er es =
      stage_is H h (omega (arith, p.listed.levels)) s r er (es ∙ sym (slot-take a n xs r (omega (arith, er, last_le h A, length-A))))

  -- an owner that stays
  stays_new : {s : ℕ} → InA a A s → (c : ℕ) → get_or (R s) c 0 ≡ get_or (record_of T s) c 0
  stays_new {s} i c = ap (λ (r : List ℕ). get_or r c 0) (as_new S T B s (stays S p.listed.passes.sound a n p.listed.list s i))

  -- the columns from lo to hi are as truncated, but for the nodes that are to be freed
  pub record ChainEnded (lo hi : ℕ) (w : List ℕ) : Type 0 where
    pub front : take 8 w ≡ take 8 w₀
    pub between : Between m (slots_of S) R (record_of S) lo hi w

  pub none-ended : ChainEnded (to_column 0) (to_column 0) w₀
  none-ended = record { front = refl; between = rw p.listed.levels (between_start w₀ p.listed.passes R (to_column 0)) }

  pub same_size : {lo hi : ℕ} {w : List ℕ} → ChainEnded lo hi w → length w ≡ length w₀
  same_size g = g.between.size ∙ sym none-ended.between.size

  -- ---- the links ----
  module _ {slots : List Slot} {ranks : List Rank} (q : Before w₀ m a n slots ranks) {l : ℕ} {w : List ℕ} (g : ChainEnded (to_column 0) (to_column l) w) (k : l < m) where
    abbrev s : ℕ
    s = slot_in slots l

    st : Stage H (suc l) s (rank_in ranks l)
    st = stage_of (suc l) s (rank_in ranks l) (omega arith) (q.rank l k) (q.slot l k)

    its_column : (j : ℕ) → j < link_words → Column S.levels (to_column l + j) (field j (suc l))
    its_column j f = link_column S.levels l j (omega (arith, p.listed.levels)) f

    pub precursor_link : LinkIn w m s l
    precursor_link = link_there m (slots_of S) small w g.between s l st.known k

    pub level_ended : {x : List ℕ} → x ≡ put_link m w s l absent_link → ChainEnded (to_column 0) (to_column (l + 1)) x
    level_ended ex = rw ex (record {
      front = link_front m w s l absent_link ∙ g.front;
      between = link_up k (omega arith) g.between s absent_link refl st.known
          (λ z i ne j f. differs_at S T B (to_column l + j) s (st.same (to_column l + j) j (its_column j f)) z i ne)
          (λ j f. stays_new st.owner (to_column l + j) ∙ st.new (to_column l + j) j (its_column j f));
    })

  pub unlinked : {l : ℕ} {w : List ℕ} → ChainEnded (to_column 0) (to_column l) w → l ≤ m → m ≤ l → Unlinked w₀ m a n w
  unlinked {l} {w} g x y =
      let e : l ≡ m = le_antisymm x y in
      let h : ChainEnded (to_column 0) (width m) w = subst (λ (k : ℕ). ChainEnded (to_column 0) (to_column k) w) e g in
      record { front = h.front; between = h.between }

  -- ---- the head, and the slot e of rank n ----
  a_in : a < slots_of S
  a_in = omega (arith, p.listed.list)

  new_head : (c : ℕ) → get_or (R a) c 0 ≡ get_or (head_words S.levels A) c 0
  new_head c = stays_new (its_head refl) c ∙ ap (λ (r : List ℕ). get_or r c 0) (head_T H ∙ ap (head_words S.levels) (append-nil A))

  module _ {e : ℕ} (ee : e ≡ slot_at a xs n) where
    pub end-stage : Stage H 0 e n
    end-stage = stage_of 0 e n (omega arith) (sym (last-zero A ∙ length-A)) ee

    new_last : get_or (R a) 3 0 ≡ cond (eqb n 0) N e
    new_last = new_head 3 ∙ elim (same? n 0) [
      | same x q ↦ rw (x, q) refl
      | other x q ↦ rw x (last-slot-take a n xs (omega (arith, p.index)) q ∙ sym ee)
    ]

    module _ {w : List ℕ} (g : Unlinked w₀ m a n w) where
      pub both_there : Cell w m a 3 × Cell w m e 2
      both_there = (there m (slots_of S) small w g.between a 3 a_in (omega arith), there m (slots_of S) small w g.between e 2 end-stage.known (omega arith))

      pub ended : {x : List ℕ} → x ≡ put_at m (put_at m (put_at m w a 3 (cond (eqb n 0) N e)) e 2 N) a 0 n → ChainEnded 0 (width m) x
      ended ex =
          let w₃ = put_at m w a 3 (cond (eqb n 0) N e) in
          let w₂ = put_at m w₃ e 2 N in
          let next = next-column S.levels in
          let mix₃ = one_down m (slots_of S) R (record_of S) w 3 a (cond (eqb n 0) N e) (omega arith) a_in (differs_at S T B 3 a (same_3 H)) new_last
          4 (width m) (omega arith) refl g.between in
          let mix₂ = one_down m (slots_of S) R (record_of S) w₃ 2 e N (omega arith) end-stage.known (differs_at S T B 2 e (end-stage.same 2 0 next))
          (stays_new end-stage.owner 2 ∙ end-stage.new 2 0 next) 3 (width m) (omega arith) refl mix₃ in
          let mix₁ = skip_down m (slots_of S) R (record_of S) w₂ 1 2 (width m) (omega arith) refl (omega arith)
          (λ s l. differs_at S T B 1 (slots_of S) (λ z x ne. same_1 H z x) s l (λ f. omega arith)) mix₂ in
          record {
            front = rw (ex, put_front, put_front, put_front) g.front;
            between = rw ex (one_down m (slots_of S) R (record_of S) w₂ 0 a n (omega arith) a_in (differs_at S T B 0 a (same_0 H)) (new_head 0 ∙ length-A)
                1 (width m) (omega arith) refl mix₁);
          }
