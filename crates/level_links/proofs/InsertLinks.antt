-- An insertion at a place where the keys stay in order: what changes of the records, and the loop of `insert_links`, level by level.
-- Rests on model's Hang and Inserting, arena's Relink and on LinkChanges.
use Prim.Native.Nat.{ℕ, suc, ◌+◌, ◌-◌, ◌≤◌, ◌<◌}
use mathlib.Core.Path.{◌≡◌, refl, sym, ap, ◌∙◌, subst}
use mathlib.Core.List.{List, [], ◌∷◌}
use lib.ListN.{length, take, drop, get_or, length-drop}
use lib.Seq.{length-take-le}
use native.Mathlib.Nat.{not-suc-le-zero}
use native.Mathlib.Omega.{arith}
use Rattle.model.specs.Nodes.{Node, node, slot_at}
use Rattle.model.specs.Links.{distance, link_of, absent_link}
use Rattle.model.specs.Closed.{last}
use Rattle.model.specs.Arena.{far_column, State, first_free, free_words, record_of, slots_of}
use Rattle.model.specs.Cells.{cell_at, link_at}
use Rattle.model.specs.Passes.{decode, nodes}
use Rattle.model.proofs.Counting.{list_few}
use Rattle.model.proofs.Hang.{Hung, Stage, stage_is}
use Rattle.model.proofs.Inserting.{with_both, InsertLike, hung-insert, f_in, f_T, f_S, insert_like}
use Rattle.model.proofs.Owners.{link_from}
use Rattle.model.proofs.Splitting.{slot-take}
use Rattle.model.proofs.Steps.{distance_le}
use Rattle.model.proofs.Tests.{hit, miss, test}
use Rattle.model.proofs.Walk.{last_le}
use Rattle.arena.specs.Owners.{slot_in, rank_in, Before}
use Rattle.arena.specs.declared.Slot.{Slot}
use Rattle.arena.specs.declared.Rank.{Rank}
use Rattle.arena.proofs.Relink.{LinkOf, Relinked, relink_start, link_s, link_o, old_link, old_link_o, relinked, relinked-one}
use Rattle.level_links.specs.AtIndex.{inserted_at, CanInsert}
use Rattle.level_links.specs.OneLevel.{nearer_link, longer_link, LevelFits, LevelInserted, LinksDone}
use Rattle.level_links.proofs.LinkChanges.{past_le, nearer_from, first-from, longer-from, free_link, link_under, link_over}

free_is : (fs : List ℕ) → 0 < length fs → fs ≡ first_free fs ∷ drop 1 fs
free_is [] l = absurd (not-suc-le-zero l)
free_is (f ∷ gs) l = refl

module _ {w₀ : List ℕ} {m a i k h : ℕ} (p : CanInsert w₀ m a i k h) where
  abbrev S : State
  S = decode w₀

  abbrev T : State
  T = inserted_at S a i k h

  abbrev xs : List Node
  xs = nodes w₀ a

  -- before the place, behind it, and the node that comes between
  abbrev A : List Node
  A = take i xs

  abbrev B : List Node
  B = drop i xs

  abbrev o : ℕ
  o = first_free S.free

  abbrev nd : Node
  nd = node o k h

  free_chain_lem : S.free ≡ o ∷ drop 1 S.free
  free_chain_lem = free_is S.free p.room

  pub like : InsertLike S S.lists T.lists o (drop 1 S.free) a A nd B
  like =
      insert_like S p.listed.passes.sound o (drop 1 S.free) free_chain_lem a i k h p.listed.list
      (omega (arith, p.height, p.listed.levels)) p.sorted

  pub H : Hung S T a o A B (nd ∷ B)
  H = subst (λ (t : List ℕ). Hung (with_both S S.lists t) T a o A B (nd ∷ B)) (sym free_chain_lem) (hung-insert like)

  pub o-S : record_of S o ≡ free_words S.levels (drop 1 S.free)
  o-S =
      subst (λ (t : List ℕ). record_of (with_both S S.lists t) o ≡ free_words S.levels (drop 1 S.free)) (sym free_chain_lem) (f_S like)

  pub small : m ≤ 16
  small = omega (arith, p.listed.levels, p.listed.passes.sizes.levels_most)

  pub few : length xs < 65535
  few = omega (arith, list_few S p.listed.passes.sound a, p.room, p.listed.passes.sizes.room_most)

  pub o_in : o < slots_of S
  o_in = (f_in like).1

  pub length-A : length A ≡ i
  length-A = length-take-le i xs p.within

  pub stage_of : (g s r : ℕ) → g ≤ m → r ≡ last g A → s ≡ slot_at a xs r → Stage H g s r
  stage_of g s r l er es =
      stage_is H g (omega (arith, p.listed.levels)) s r er (es ∙ sym (slot-take a i xs r (omega (arith, er, last_le g A, length-A))))

  -- ---- the loop over the levels ----
  pub insert_start : Relinked S T (take 8 w₀) m 0 w₀
  insert_start = relink_start w₀ p.listed.passes T m p.listed.levels

  pub insert_size : {l : ℕ} {w : List ℕ} → Relinked S T (take 8 w₀) m l w → length w ≡ length w₀
  insert_size g = g.between.size ∙ sym insert_start.between.size

  pub insert-end : {l : ℕ} {w : List ℕ} → Relinked S T (take 8 w₀) m l w → l ≤ m → m ≤ l → LinksDone w₀ T m w
  insert-end {l} {w} g x y =
      let e : l ≡ m = omega arith in
      subst (λ (n : ℕ). Relinked S T (take 8 w₀) m n w → LinksDone w₀ T m w) (sym e) (λ q. record { front = q.front; between = q.between }) g

  -- level l: its precursor s stands r nodes behind the head
  module _ {slots : List Slot} {ranks : List Rank} (q : Before w₀ m a i slots ranks) {l : ℕ} {w : List ℕ} (g : Relinked S T (take 8 w₀) m l w) (kl : l < m)
      {place : ℕ} (ep : place ≡ i) where
    abbrev s : ℕ
    s = slot_in slots l

    abbrev r : ℕ
    r = rank_in ranks l

    abbrev back : ℕ
    back = place - r

    st : Stage H (suc l) s r
    st = stage_of (suc l) s r (omega arith) (q.rank l kl) (q.slot l kl)

    lm : l < S.levels
    lm = omega (arith, p.listed.levels)

    pub rank_le : r ≤ place
    rank_le = omega (arith, st.within, length-A)

    back_is : length A - r ≡ back
    back_is = omega (arith, length-A)

    s_old : link_at m w s l ≡ link_from back (suc l) B
    s_old = old_link H o_in p.listed.levels small g kl st ∙ ap (λ (n : ℕ). link_from n (suc l) B) back_is

    o_old : LinkOf (record_of S) l o absent_link
    o_old = free_link S.levels (drop 1 S.free) o-S l lm

    far_is : cell_at m w s (far_column l) ≤ back + length B
    far_is =
        let far = ap (λ (ks : List ℕ). get_or ks 1 0) s_old in
        omega (arith, far, past_le back (distance (suc l) B) (length B) (distance_le (suc l) B))

    o_far : cell_at m w o (far_column l) ≡ 0
    o_far = sym (old_link_o H o_in p.listed.levels small g kl st 1 (omega arith)) ∙ o_old 1 (omega arith)

    pub level_fits : {o' : ℕ} → o' ≡ o → LevelFits w m l s o' back
    level_fits eo = rw eo (record {
      precursor = link_s H o_in p.listed.levels small g kl st;
      node = link_o H o_in p.listed.levels small g kl st;
      near = omega (arith, few, p.within);
      far = omega (arith, far_is, few, p.within, length-drop i xs);
      far_node = omega (arith, o_far);
    })

    under : l < h → {x : List ℕ} → LevelInserted m l h s o back w x → Relinked S T (take 8 w₀) m (l + 1) x
    under c {x} v =
        let first : (o ∷ (back + 1) ∷ []) ≡ link_from (length A - r) (suc l) (nd ∷ B) = rw back_is (first-from back (suc l) B nd c) in
        let second : nearer_link back (link_at m w s l) ≡ link_of (suc l) B = ap (nearer_link back) s_old ∙ nearer_from back (suc l) B in
        relinked H o_in p.listed.levels small g kl st (o ∷ (back + 1) ∷ []) first (nearer_link back (link_at m w s l)) refl
        (λ j f. link_under S.levels nd B (f_T like) l lm c j f ∙ ap (λ (ks : List ℕ). get_or ks j 0) (sym second)) x (v.under c)

    over : h ≤ l → {x : List ℕ} → LevelInserted m l h s o back w x → Relinked S T (take 8 w₀) m (l + 1) x
    over c {x} v =
        let longer : longer_link (link_at m w s l) ≡ link_from (length A - r) (suc l) (nd ∷ B)
        = rw back_is (ap longer_link s_old ∙ longer-from back (suc l) B nd (omega arith)) in
        relinked-one H o_in p.listed.levels small g kl st (longer_link (link_at m w s l)) longer
        (λ j f. link_over S.levels nd B (f_T like) l lm c j f ∙ sym (o_old j f)) x (v.over c)

    pub insert_turn : {o' h' : ℕ} → o' ≡ o → h' ≡ h → {x : List ℕ} → LevelInserted m l h' s o' back w x → Relinked S T (take 8 w₀) m (l + 1) x
    insert_turn eo eh z =
        let v = rw (eo, eh) at z in
        elim (test (suc l) h) [ hit _ c ↦ under c v | miss _ c ↦ over (omega arith) v ]
