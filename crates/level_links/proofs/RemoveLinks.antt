-- A removal, which is an insertion turned round: what changes of the records, and the loop of `remove_links`, level by level.
-- Rests on model's Hang and Inserting, arena's Relink and on LinkChanges.
use Prim.Native.Nat.{ℕ, suc, ◌+◌, ◌-◌, ◌≤◌, ◌<◌}
use mathlib.Core.Path.{◌≡◌, refl, sym, ap, ◌∙◌, subst}
use mathlib.Core.List.{List, [], ◌∷◌}
use lib.ListN.{length, take, drop, get_or, length-set, length-drop}
use lib.Seq.{get_or-set_same, get_or-set_other, length-take-le, split_at}
use native.Mathlib.Omega.{arith}
use Rattle.model.specs.Nodes.{Node, node, N, slot_at, at}
use Rattle.model.specs.Links.{distance, link_words, link_of, absent_link}
use Rattle.model.specs.Lists.{remove_at}
use Rattle.model.specs.Closed.{last}
use Rattle.model.specs.Arena.{to_column, far_column, State, record_of, slots_of}
use Rattle.model.specs.Calls.{do_remove}
use Rattle.model.specs.Cells.{cell_at, link_at}
use Rattle.model.specs.Passes.{decode, nodes}
use Rattle.model.proofs.Columns.{link_field, link_is}
use Rattle.model.proofs.Counting.{list_few}
use Rattle.model.proofs.Hang.{Hung, Stage, stage_is, flip}
use Rattle.model.proofs.Inserting.{InsertLike, hung-insert, f_in, f_T, f_S}
use Rattle.model.proofs.Keeps.{sound_remove}
use Rattle.model.proofs.Owners.{link_from}
use Rattle.model.proofs.Splitting.{slot-take}
use Rattle.model.proofs.Steps.{distance_le}
use Rattle.model.proofs.Tests.{hit, miss, test}
use Rattle.model.proofs.Walk.{last_le}
use Rattle.arena.specs.Owners.{slot_in, rank_in, Before, NodeThere}
use Rattle.arena.specs.declared.Slot.{Slot}
use Rattle.arena.specs.declared.Rank.{Rank}
use Rattle.arena.proofs.Relink.{LinkOf, Relinked, relink_start, link_s, link_o, old_link, old_link_o, relinked, relinked-one}
use Rattle.level_links.specs.OneLevel.{farther_link, shorter_link, LevelFits, LevelRemoved, LinksDone}
use Rattle.level_links.proofs.LinkChanges.{past_le, farther_of, shorter_from, free_link, link_under, link_over}

module _ {w₀ : List ℕ} {m a i : ℕ} (p : NodeThere w₀ m a i) where
  abbrev S : State
  S = decode w₀

  abbrev T : State
  T = do_remove S a i

  abbrev xs : List Node
  xs = nodes w₀ a

  -- before the node, behind it, and the node
  abbrev A : List Node
  A = take i xs

  abbrev B : List Node
  B = drop (suc i) xs

  abbrev nd : Node
  nd = at xs i

  abbrev o : ℕ
  o = nd.slot

  pub like : InsertLike S T.lists S.lists o S.free a A nd B
  like =
      record {
        sound_S = sound_remove S p.listed.passes.sound a p.listed.list i p.index;
        sound_T = p.listed.passes.sound;
        lists = length-set S.lists a (remove_at i xs);
        list_a = omega (arith, p.listed.list, length-set S.lists a (remove_at i xs));
        slot = refl;
        S-a = get_or-set_same S.lists a (remove_at i xs) [] p.listed.list;
        T-a = split_at xs i (node N 0 0) p.index;
        others = λ z na. sym (get_or-set_other S.lists a z (remove_at i xs) [] na);
      }

  pub H : Hung S T a o A (nd ∷ B) B
  H = flip (hung-insert like)

  pub small : m ≤ 16
  small = omega (arith, p.listed.levels, p.listed.passes.sizes.levels_most)

  pub few : length xs + length S.free ≤ 65535
  few = omega (arith, list_few S p.listed.passes.sound a, p.listed.passes.sizes.room_most)

  pub o_in : o < slots_of S
  o_in = omega (arith, (f_in like).1, length-set S.lists a (remove_at i xs))

  pub length-A : length A ≡ i
  length-A = length-take-le i xs (omega (arith, p.index))

  pub stage_of : (g s r : ℕ) → g ≤ m → r ≡ last g A → s ≡ slot_at a xs r → Stage H g s r
  stage_of g s r l er es =
      stage_is H g (omega (arith, p.listed.levels)) s r er (es ∙ sym (slot-take a i xs r (omega (arith, er, last_le g A, length-A))))

  -- ---- the loop over the levels ----
  pub remove_start : Relinked S T (take 8 w₀) m 0 w₀
  remove_start = relink_start w₀ p.listed.passes T m p.listed.levels

  pub remove_size : {l : ℕ} {w : List ℕ} → Relinked S T (take 8 w₀) m l w → length w ≡ length w₀
  remove_size g = g.between.size ∙ sym remove_start.between.size

  pub remove_end : {l : ℕ} {w : List ℕ} → Relinked S T (take 8 w₀) m l w → l ≤ m → m ≤ l → LinksDone w₀ T m w
  remove_end {l} {w} g x y =
      let e : l ≡ m = omega arith in
      subst (λ (n : ℕ). Relinked S T (take 8 w₀) m n w → LinksDone w₀ T m w) (sym e) (λ q. record { front = q.front; between = q.between }) g

  -- level l: its precursor s stands r nodes behind the head
  module _ {slots : List Slot} {ranks : List Rank} (q : Before w₀ m a i slots ranks) {l : ℕ} {w : List ℕ} (g : Relinked S T (take 8 w₀) m l w) (kl : l < m)
      {place : ℕ} (ep : place ≡ i) where
    abbrev s : ℕ
    s = slot_in slots l

    abbrev r : ℕ
    r = rank_in ranks l

    abbrev back : ℕ
    back = place - r

    st : Stage H (suc l) s r
    st = stage_of (suc l) s r (omega arith) (q.rank l kl) (q.slot l kl)

    lm : l < S.levels
    lm = omega (arith, p.listed.levels)

    pub rank_le : r ≤ place
    rank_le = omega (arith, st.within, length-A)

    back_is : length A - r ≡ back
    back_is = omega (arith, length-A)

    s_old : link_at m w s l ≡ link_from back (suc l) (nd ∷ B)
    s_old = old_link H o_in p.listed.levels small g kl st ∙ ap (λ (n : ℕ). link_from n (suc l) (nd ∷ B)) back_is

    -- the words of o still are the node's, and become a free slot's
    o_old : (j : ℕ) → j < link_words → cell_at m w o (to_column l + j) ≡ get_or (record_of S o) (to_column l + j) 0
    o_old j f = sym (link_field m w o l j f) ∙ sym (old_link_o H o_in p.listed.levels small g kl st j f)

    o_new : LinkOf (record_of T) l o absent_link
    o_new = free_link S.levels S.free (f_S like) l lm

    far_is : cell_at m w s (far_column l) ≤ back + length (nd ∷ B)
    far_is =
        let far = ap (λ (ks : List ℕ). get_or ks 1 0) s_old in
        omega (arith, far, past_le back (distance (suc l) (nd ∷ B)) (length (nd ∷ B)) (distance_le (suc l) (nd ∷ B)))

    o_far : cell_at m w o (far_column l) ≤ length B
    o_far =
        let one : 1 < link_words = omega arith in
        let far = sym (link_field m w o l 1 one ∙ o_old 1 one) in
        elim (test (suc l) nd.height) [
          | hit _ c ↦ omega (arith, far, link_under S.levels nd B (f_T like) l lm c 1 one, distance_le (suc l) B)
          | miss _ c ↦ omega (arith, far, link_over S.levels nd B (f_T like) l lm (omega arith) 1 one)
        ]

    pub level_fits : {o' : ℕ} → o' ≡ o → LevelFits w m l s o' back
    level_fits eo = rw eo (record {
      precursor = link_s H o_in p.listed.levels small g kl st;
      node = link_o H o_in p.listed.levels small g kl st;
      near = omega (arith, few, p.index);
      far = omega (arith, far_is, few, p.index, length-drop (suc i) xs);
      far_node = omega (arith, o_far, length-drop (suc i) xs, few);
    })

    under : l < nd.height → {x : List ℕ} → LevelRemoved m l nd.height s o back w x → Relinked S T (take 8 w₀) m (l + 1) x
    under c {x} v =
        let second : link_at m w o l ≡ link_of (suc l) B
        = link_is m w o l (link_of (suc l) B) refl (λ j f. o_old j f ∙ link_under S.levels nd B (f_T like) l lm c j f) in
        let whole : farther_link back (link_at m w o l) ≡ link_from (length A - r) (suc l) B
        = rw back_is (ap (farther_link back) second ∙ farther_of back (suc l) B) in
        relinked H o_in p.listed.levels small g kl st (farther_link back (link_at m w o l)) whole absent_link refl o_new x (v.under c)

    over : nd.height ≤ l → {x : List ℕ} → LevelRemoved m l nd.height s o back w x → Relinked S T (take 8 w₀) m (l + 1) x
    over c {x} v =
        let shorter : shorter_link (link_at m w s l) ≡ link_from (length A - r) (suc l) B
        = rw back_is (ap shorter_link s_old ∙ shorter_from back (suc l) B nd (omega arith)) in
        relinked-one H o_in p.listed.levels small g kl st (shorter_link (link_at m w s l)) shorter
        (λ j f. o_new j f ∙ sym (link_over S.levels nd B (f_T like) l lm c j f)) x (v.over c)

    pub remove_turn : {o' h' : ℕ} → o' ≡ o → h' ≡ nd.height → {x : List ℕ} → LevelRemoved m l h' s o' back w x → Relinked S T (take 8 w₀) m (l + 1) x
    remove_turn eo eh z =
        let v = rw (eo, eh) at z in
        elim (test (suc l) nd.height) [ hit _ c ↦ under c v | miss _ c ↦ over (omega arith) v ]
