-- A merge, node by node: the first of b is removed and inserted in a, and what is left to merge leads to the same. Rests on Holding and model's Composing.
use Prim.Native.Nat.{ℕ, ◌+◌, ◌≤◌, ◌<◌}
use mathlib.Core.Path.{◌≡◌, refl, sym, ap, ap₂, ◌∙◌}
use mathlib.Core.List.{List, [], ◌∷◌}
use lib.ListN.{length, drop, set, length-set}
use lib.Seq.{get_or-set_same, get_or-set_other, lt-length-set, set-set, set_comm, set-get_or}
use native.Mathlib.Omega.{arith}
use Rattle.model.specs.Nodes.{Node, at, key_at, slot_at, Low}
use Rattle.model.specs.Lists.{insert, remove_at, merge_in}
use Rattle.model.specs.Arena.{State, list_of, put_list, encode}
use Rattle.model.specs.Calls.{do_insert, do_remove}
use Rattle.model.specs.Passes.{decode, nodes, Sound}
use Rattle.arena.specs.Owners.{Listed, TwoLists}
use Rattle.merge.specs.Merged.{do_merge, moved_first}
use Rattle.model.proofs.Allowed.{no_length}
use Rattle.model.proofs.Composing.{merge_step}
use Rattle.model.proofs.Keeps.{sound_remove, sound-insert, low-list}
use Rattle.model.proofs.Splitting.{with_lists}
use Rattle.merge.proofs.Holding.{HoldsMoved, holds, still_listed}

first_of : (ys : List Node) → 0 < length ys → ys ≡ at ys 0 ∷ drop 1 ys
first_of [] l = absurd (omega arith)
first_of (y ∷ ys) l = refl

low_first : (h : ℕ) (ys : List Node) → 0 < length ys → Low h ys → (at ys 0).height ≤ h
low_first h [] l q = absurd (omega arith)
low_first h (y ∷ ys) l q = q.0

-- ---- one node ----
module _ {w : List ℕ} {m a b : ℕ} (p : TwoLists w m a b) (some : 0 < length (nodes w b)) where
  abbrev S : State
  S = decode w

  abbrev R : State
  R = do_remove S b 0

  sound-R : Sound R
  sound-R = sound_remove S p.second.passes.sound b p.second.list 0 some

  lists_R : length R.lists ≡ length S.lists
  lists_R = length-set S.lists b (remove_at 0 (list_of S b))

  low : (at (nodes w b) 0).height ≤ S.levels
  low = low_first S.levels (nodes w b) some (low-list S p.second.passes.sound b)

  pub low_enough : {h : ℕ} → h ≡ (at (nodes w b) 0).height → h ≤ m
  low_enough e = omega (arith, e, low, p.second.levels)

  -- the first of b is out: its slot is first on the free chain
  module _ {u : List ℕ} (e : u ≡ encode R) where
    removed : HoldsMoved w u R
    removed = holds p.second.passes sound-R (record { levels = refl; room = refl; lists = lists_R }) e

    pub a-listed : Listed u m a
    a-listed = still_listed removed p.first

    pub slot_free : 0 < length (decode u).free
    slot_free = omega (arith, ap (λ (s : State). length s.free) removed.model)

    pub moved_is : {k h : ℕ} → k ≡ key_at (nodes w b) 0 → h ≡ (at (nodes w b) 0).height
        → {v : List ℕ} → v ≡ encode (do_insert (decode u) a k h) → v ≡ encode (moved_first S a b)
    moved_is {k} {h} ek eh q = q ∙ (rw (ek, eh) (ap (λ (s : State). encode (do_insert s a (key_at (nodes w b) 0) (at (nodes w b) 0).height)) removed.model))

  -- and in a
  module _ {u : List ℕ} (e : u ≡ encode (moved_first S a b)) where
    abbrev y : Node
    y = at (nodes w b) 0

    abbrev ys : List Node
    ys = drop 1 (nodes w b)

    is_moved : moved_first S a b ≡ with_lists S (set (set S.lists b ys) a (insert y (list_of S a)))
    is_moved = merge_step S a b y ys (first_of (nodes w b) some) p.apart

    moved : HoldsMoved w u (moved_first S a b)
    moved = holds p.first.passes
        (sound-insert R sound-R a (omega (arith, lists_R, p.first.list)) (slot_at b (list_of S b) 1) S.free y.key y.height refl low)
        (record {
          levels = ap (λ (s : State). s.levels) is_moved;
          room = ap (λ (s : State). s.room) is_moved;
          lists = ap (λ (s : State). length s.lists) is_moved ∙ length-set (set S.lists b ys) a (insert y (list_of S a)) ∙ length-set S.lists b ys;
        }) e

    model_u : decode u ≡ with_lists S (set (set S.lists b ys) a (insert y (list_of S a)))
    model_u = moved.model ∙ is_moved

    a-now : nodes u a ≡ insert y (nodes w a)
    a-now =
        ap (λ (s : State). list_of s a) model_u
        ∙ get_or-set_same (set S.lists b ys) a (insert y (list_of S a)) [] (lt-length-set S.lists b ys p.first.list)

    b-now : nodes u b ≡ ys
    b-now =
        ap (λ (s : State). list_of s b) model_u ∙ get_or-set_other (set S.lists b ys) a b (insert y (list_of S a)) [] (λ q. p.apart (sym q))
        ∙ get_or-set_same S.lists b ys [] p.second.list

    pub still_two : TwoLists u m a b
    still_two = record { first = still_listed moved p.first; second = still_listed moved p.second; apart = p.apart }

    pub one_fewer : length (nodes u b) + 1 ≡ length (nodes w b)
    one_fewer = omega (arith, ap length b-now, ap length (first_of (nodes w b) some))

    pub same_merge : do_merge (decode u) a b ≡ do_merge S a b
    same_merge =
        let Z = merge_in (nodes w b) (nodes w a) in
        let X = insert y (nodes w a) in
        let is-Z : merge_in (nodes u b) (nodes u a) ≡ Z
        = ap₂ merge_in b-now a-now ∙ sym (ap (λ (t : List Node). merge_in t (nodes w a)) (first_of (nodes w b) some)) in
        let lists : set (set (set (set S.lists b ys) a X) a Z) b [] ≡ set (set S.lists a Z) b []
        = ap (λ (t : List (List Node)). set t b []) (set-set (set S.lists b ys) a X Z ∙ set_comm S.lists b a ys Z (λ q. p.apart (sym q)))
        ∙ set-set (set S.lists a Z) b ys [] in
        ap (λ (t : List Node). put_list (put_list (decode u) a t (decode u).free) b [] (decode u).free) is-Z
        ∙ ap (λ (s : State). put_list (put_list s a Z s.free) b [] s.free) model_u ∙ ap (with_lists S) lists

    pub size_moved : length u ≡ length w
    size_moved = moved.size

-- ---- all of them ----
-- what is left to merge in w leads to what was to merge in w₀
pub record Merging (w₀ : List ℕ) (m a b : ℕ) (w : List ℕ) : Type 0 where
  pub lists : TwoLists w m a b
  pub same : do_merge (decode w) a b ≡ do_merge (decode w₀) a b
  pub size : length w ≡ length w₀

pub merge_turn : {w₀ : List ℕ} {m a b : ℕ} {w : List ℕ} (g : Merging w₀ m a b w) → 0 < length (nodes w b)
    → {u : List ℕ} → u ≡ encode (moved_first (decode w) a b) → Merging w₀ m a b u
merge_turn g l e = record { lists = still_two g.lists l e; same = same_merge g.lists l e ∙ g.same; size = size_moved g.lists l e ∙ g.size }

pub merge_done : {w₀ : List ℕ} {m a b : ℕ} {w : List ℕ} → Merging w₀ m a b w → length (nodes w b) ≡ 0 → w ≡ encode (do_merge (decode w₀) a b)
merge_done {w₀} {m} {a} {b} {w} g l = g.lists.first.passes.words ∙ ap encode (sym none ∙ g.same)
  where
    none : do_merge (decode w) a b ≡ decode w
    none =
        let e = no_length (nodes w b) l in
        ap (λ (t : List Node). put_list (put_list (decode w) a (merge_in t (nodes w a)) (decode w).free) b [] (decode w).free) e
        ∙ ap (with_lists (decode w))
        (ap (λ (t : List (List Node)). set t b []) (set-get_or (decode w).lists a []) ∙ ap (set (decode w).lists b) (sym e) ∙ set-get_or (decode w).lists b [])
