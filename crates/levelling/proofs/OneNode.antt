-- One node out and in again at another height: the words are those of the model with that height, and the path leads on.
-- Rests on model's Keeps and Composing, and on ListReplaced.
use Prim.Native.Nat.{ℕ, suc, ◌+◌, ◌≤◌, ◌<◌}
use mathlib.Core.Path.{◌≡◌, refl, sym, ap, ◌∙◌, subst}
use mathlib.Core.List.{List, [], ◌∷◌, ◌++◌, append_assoc}
use lib.ListN.{length, take, drop, set, length-set, length-append}
use lib.Seq.{get_or-set_same, set-set, take_at, get_or_at, length-take-le, split_at}
use native.Mathlib.Omega.{arith}
use borrow.Author.Tests.{lt-leb}
use Rattle.model.specs.Nodes.{Node, node, N, at, slot_at, Above, Sorted}
use Rattle.model.specs.Lists.{insert_at, remove_at}
use Rattle.model.specs.Closed.{last}
use Rattle.model.specs.Arena.{State, first_free, list_of, put_list, encode}
use Rattle.model.specs.Calls.{do_remove}
use Rattle.model.specs.Passes.{decode, nodes, Sound}
use Rattle.model.proofs.Composing.{level_step}
use Rattle.model.proofs.Keeps.{each_get, sound-insert-at, sound_remove}
use Rattle.model.proofs.Owners.{last_mid}
use Rattle.model.proofs.Splitting.{slot-take}
use Rattle.model.proofs.Tests.{hit, miss, test}
use Rattle.model.proofs.Walk.{last_le}
use Rattle.arena.specs.Owners.{slot_in, rank_in, Listed, Leads, NodeThere}
use Rattle.arena.specs.declared.Path.{Path}
use Rattle.level_links.specs.AtIndex.{inserted_at, CanInsert}
use Rattle.levelling.specs.NodeByNode.{levelled_at, SteppedOver, Relevelled}
use Rattle.levelling.proofs.ListReplaced.{leads-kept, decoded, listed_then, nodes_then}

-- the order is that of the keys
above_swap : (t : ℕ) (aa : List Node) (x y : Node) (bb : List Node) → x.key ≡ y.key → Above t (aa ++ x ∷ bb) → Above t (aa ++ y ∷ bb)
above_swap t [] x y bb e q = (omega (arith, e, q.0), q.1)
above_swap t (a ∷ aa) x y bb e q = (q.0, above_swap t aa x y bb e q.1)

sorted_swap : (aa : List Node) (x y : Node) (bb : List Node) → x.key ≡ y.key → Sorted (aa ++ x ∷ bb) → Sorted (aa ++ y ∷ bb)
sorted_swap [] x y bb e q = (subst (λ (k : ℕ). Above k bb) e q.0, q.1)
sorted_swap (a ∷ aa) x y bb e q = (above_swap a.key aa x y bb e q.0, sorted_swap aa x y bb e q.1)

last-low : (h : ℕ) (aa : List Node) (y : Node) → y.height < h → last h (aa ++ y ∷ []) ≡ last h aa
last-low h [] y l = rw (lt-leb h y.height l) refl
last-low h (a ∷ aa) y l = rw (last-low h aa y l) refl

module _ {w : List ℕ} {m a i : ℕ} (p : NodeThere w m a i) {h : ℕ} (hm : h ≤ m) where
  abbrev S : State
  S = decode w

  abbrev xs : List Node
  xs = nodes w a

  abbrev y : Node
  y = at xs i

  abbrev n : Node
  n = node y.slot y.key h

  abbrev A : List Node
  A = take i xs

  abbrev B : List Node
  B = drop (suc i) xs

  abbrev R : State
  R = do_remove S a i

  length-A : length A ≡ i
  length-A = length-take-le i xs (omega (arith, p.index))

  sound-R : Sound R
  sound-R = sound_remove S p.listed.passes.sound a p.listed.list i p.index

  list-R : list_of R a ≡ remove_at i xs
  list-R = get_or-set_same S.lists a (remove_at i xs) [] p.listed.list

  again : insert_at i n (list_of R a) ≡ A ++ n ∷ B
  again = ap (insert_at i n) list-R ∙ level_step i n xs p.index

  as-T : put_list R a (insert_at i n (list_of R a)) S.free ≡ levelled_at S a i h
  as-T =
      ap (λ (t : List (List Node)). record { levels = S.levels; room = S.room; lists = t; free = S.free })
      (ap (set R.lists a) again ∙ set-set S.lists a (remove_at i xs) (A ++ n ∷ B))

  sorted-T : Sorted (A ++ n ∷ B)
  sorted-T =
      let sorted-S = each_get Sorted S.lists a tt p.listed.passes.sound.sorted in
      sorted_swap A y n B refl (subst Sorted (split_at xs i (node N 0 0) p.index) sorted-S)

  sorted-R : Sorted (insert_at i n (list_of R a))
  sorted-R = subst Sorted (sym again) sorted-T

  sound_T : Sound (levelled_at S a i h)
  sound_T =
      let list : a < length R.lists = omega (arith, p.listed.list, length-set S.lists a (remove_at i xs)) in
      let height : h ≤ R.levels = omega (arith, hm, p.listed.levels) in
      subst Sound as-T (sound-insert-at R sound-R a list y.slot S.free i y.key h refl height sorted-R)

  -- the node is out
  module _ {u : List ℕ} (eu : u ≡ encode R) where
    is-R : decode u ≡ R
    is-R = decoded p.listed (remove_at i xs) (y.slot ∷ S.free) sound-R eu

    nodes-u : nodes u a ≡ remove_at i xs
    nodes-u = nodes_then p.listed (remove_at i xs) (y.slot ∷ S.free) sound-R eu

    pub leads_out : {path : Path} → Leads w m a i path → Leads u m a i path
    leads_out q = leads-kept q (ap (take i) nodes-u ∙ take_at A B i length-A) (omega (arith, p.index))

    pub can_insert_again : {k : ℕ} → k ≡ y.key → CanInsert u m a i k h
    can_insert_again {k} ek = rw ek (record {
      listed = listed_then p.listed (remove_at i xs) (y.slot ∷ S.free) sound-R eu;
      height = hm;
      room = omega (arith, ap (λ (s : State). length s.free) is-R);
      within = omega (arith, ap length nodes-u, length-append A B, length-A);
      sorted = subst (λ (s : State). Sorted (insert_at i (node (first_free s.free) y.key h) (list_of s a))) (sym is-R) sorted-R;
    })

    pub as-levelled : {k : ℕ} → k ≡ y.key → {v : List ℕ} → v ≡ encode (inserted_at (decode u) a i k h) → v ≡ encode (levelled_at S a i h)
    as-levelled {k} ek ev = ev ∙ ap encode (ap (λ (s : State). inserted_at s a i k h) is-R ∙ ap (λ (j : ℕ). inserted_at R a i j h) ek ∙ as-T)

  -- and in again
  module _ {v : List ℕ} (ev : v ≡ encode (levelled_at S a i h)) where
    pub listed_in : Listed v m a
    listed_in = listed_then p.listed (A ++ n ∷ B) S.free sound_T ev

    pub is_T : decode v ≡ levelled_at S a i h
    is_T = decoded p.listed (A ++ n ∷ B) S.free sound_T ev

    pub nodes-v : nodes v a ≡ A ++ n ∷ B
    nodes-v = nodes_then p.listed (A ++ n ∷ B) S.free sound_T ev

    next-take : take (suc i) (nodes v a) ≡ A ++ n ∷ []
    next-take = ap (take (suc i)) (nodes-v ∙ sym (append_assoc A (n ∷ []) B)) ∙ take_at (A ++ n ∷ []) B (suc i) (length-append A (n ∷ []) ∙ omega (arith, length-A))

    new_slot : slot_at a (nodes v a) (suc i) ≡ y.slot
    new_slot = ap (λ (t : List Node). (at t i).slot) nodes-v ∙ ap (λ (z : Node). z.slot) (get_or_at A n B (node N 0 0) i length-A)

    old_slot : (r : ℕ) → r ≤ i → slot_at a (nodes v a) r ≡ slot_at a xs r
    old_slot r l = sym (slot-take a i (nodes v a) r l) ∙ ap (λ (t : List Node). slot_at a t r) (ap (take i) nodes-v ∙ take_at A (n ∷ B) i length-A) ∙ slot-take a i xs r l

    pub leads-on : {path q : Path} → Leads w m a i path → SteppedOver path y.slot (suc i) h q → Leads v m a (suc i) q
    leads-on {path} {q} d z =
        record {
          before = record { rank = λ l k. rank-at l k; slot = λ l k. slot-at l k };
          end = z.end ∙ sym new_slot;
        }
      where
        in_16 : (l : ℕ) → l < m → l < 16
        in_16 l k = omega (arith, p.listed.levels, p.listed.passes.sizes.levels_most)

        rank-at : (l : ℕ) → l < m → rank_in q.ranks l ≡ last (suc l) (take (suc i) (nodes v a))
        rank-at l k = z.ranks l (in_16 l k) ∙ elim (test (suc l) h) [
          | hit e c ↦ rw (e, next-take, last_mid (suc l) A n [] c) (omega (arith, length-A))
          | miss e c ↦ rw (e, next-take, last-low (suc l) A n (omega arith)) (d.before.rank l k)
        ]

        slot-at : (l : ℕ) → l < m → slot_in q.slots l ≡ slot_at a (nodes v a) (rank_in q.ranks l)
        slot-at l k = elim (test (suc l) h) [
          | hit e c ↦
              let r : rank_in q.ranks l ≡ suc i = z.ranks l (in_16 l k) ∙ (rw e refl) in
              let s : slot_in q.slots l ≡ y.slot = z.slots l (in_16 l k) ∙ (rw e refl) in
              s ∙ sym (ap (slot_at a (nodes v a)) r ∙ new_slot)
          | miss e c ↦
              let r : rank_in q.ranks l ≡ rank_in path.ranks l = z.ranks l (in_16 l k) ∙ (rw e refl) in
              let s : slot_in q.slots l ≡ slot_in path.slots l = z.slots l (in_16 l k) ∙ (rw e refl) in
              let b : rank_in path.ranks l ≤ i = omega (arith, d.before.rank l k, last_le (suc l) A, length-A) in
              s ∙ d.before.slot l k ∙ sym (ap (slot_at a (nodes v a)) r ∙ old_slot (rank_in path.ranks l) b)
        ]

    pub relevelled : {path q : Path} {s r g : ℕ} → Leads w m a i path → s ≡ y.slot → r ≡ i + 1 → g ≡ h → SteppedOver path s r g q → Relevelled w m a i h v q
    relevelled {r = r} d es er eg z =
        let er' : r ≡ suc i = omega arith in
        let z' = rw (es, er', eg) at z in
        record { words = ev; leads = leads-on d z'; full = z.full }
