-- "What each operation leaves", of the nodes: where an inserted node stands, in which order freed slots and equal keys end, which heights a
-- levelling gives, and which calls change nothing. Rests on EveryCall and KeysAfter.
use Prim.Native.Nat.{ℕ, zero, suc, ◌+◌, ◌≤◌, ◌<◌}
use mathlib.Core.Path.{◌≡◌, refl, sym, ap, ap₂, ◌∙◌}
use mathlib.Core.List.{List, [], ◌∷◌, ◌++◌}
use lib.ListN.{length, take, drop, length-drop, drop_of_length-le, set}
use lib.Seq.{get_or-set_same, take_all, take-length, drop-length, set-get_or}
use native.Mathlib.Omega.{arith}
use borrow.Author.Tests.{eq-eqb, ne_eqb}
use Rattle.model.specs.Claims.{Inserted, only, backwards, LevelledAt}
use Rattle.model.specs.Arena.{State, list_of, last_slot, first_free}
use Rattle.model.specs.Calls.{insert_key, truncate, split_at, append_list, level, refusal, result_of}
use Rattle.model.specs.Lists.{insert, freed, merge_in, append, level_from, twos}
use Rattle.model.specs.Nodes.{Node, node, at}
use Rattle.model.specs.Passes.{Sound}
use Rattle.model.proofs.Allowed.{allowed}
use Rattle.model.proofs.EveryCall.{after_any}
use Rattle.model.proofs.Keeps.{sorted-list}
use Rattle.model.proofs.KeysAfter.{accepted_result}
use Rattle.model.proofs.Searching.{smaller-all}
use Rattle.model.proofs.Splitting.{with_lists, last-drop}
use Rattle.model.proofs.Tests.{same, other, same?, hit, miss, test}

-- ---- insert ----
pub nodes-inserted : (S : State) → Sound S → (a k h f : ℕ) (fs : List ℕ) → S.free ≡ f ∷ fs → refusal S (insert_key a k h) ≡ 0 → Inserted S a k h f fs (result_of S (insert_key a k h))
nodes-inserted S v a k h f fs e p =
    let xs = list_of S a in
    rw (accepted_result S (insert_key a k h) p, e) (record {
      nodes = get_or-set_same S.lists a (insert (node f k h) xs) [] (allowed S (insert_key a k h) p).0 ∙ (rw (smaller-all k xs (sorted-list S v a)) refl);
      free = refl;
    })

-- ---- freed slots ----
-- "the rest are freed in list order, so the last node ends first on the free chain"
pub freed-last : (ys : List Node) (y : Node) (fs : List ℕ) → freed (ys ++ y ∷ []) fs ≡ y.slot ∷ freed ys fs
freed-last [] y fs = refl
freed-last (x ∷ ys) y fs = freed-last ys y (x.slot ∷ fs)

first-freed : (y : Node) (ys : List Node) (fs : List ℕ) → first_free (freed (y ∷ ys) fs) ≡ last_slot (y ∷ ys)
first-freed y [] fs = refl
first-freed y (z ∷ ys) fs = first-freed z ys (y.slot ∷ fs)

pub truncate_frees : (S : State) (a n : ℕ) → refusal S (truncate a n) ≡ 0 → n < length (list_of S a) → first_free (result_of S (truncate a n)).free ≡ last_slot (list_of S a)
truncate_frees S a n p l =
    ap (λ (T : State). first_free T.free) (accepted_result S (truncate a n) p) ∙ some-freed (drop n (list_of S a)) (omega (arith, length-drop n (list_of S a)))
    ∙ last-drop (list_of S a) n l
  where
    some-freed : (ys : List Node) → 0 < length ys → first_free (freed ys S.free) ≡ last_slot ys
    some-freed [] z = absurd (omega arith)
    some-freed (y ∷ ys) z = first-freed y ys S.free

-- ---- equal keys ----
-- an inserted node stands before all equal keys
pub only-insert : (n : Node) (xs : List Node) → only n.key (insert n xs) ≡ n ∷ only n.key xs
only-insert n [] = rw (eq-eqb n.key n.key refl) refl
only-insert n (y ∷ ys) = elim (test (suc y.key) n.key) [
  | hit e p ↦ rw (e, ne_eqb y.key n.key (λ q. omega arith)) (only-insert n ys)
  | miss e p ↦ rw (e, eq-eqb n.key n.key refl) refl
]

pub only_others : (k : ℕ) (n : Node) (xs : List Node) → (n.key ≡ k → ⊥) → only k (insert n xs) ≡ only k xs
only_others k n [] ne = rw (ne_eqb n.key k ne) refl
only_others k n (y ∷ ys) ne = elim (test (suc y.key) n.key) [
  | hit e p ↦ rw e (elim (same? y.key k) [ same f q ↦ rw f (ap (λ (t : List Node). y ∷ t) (only_others k n ys ne)) | other f q ↦ rw f (only_others k n ys ne) ])
  | miss e p ↦ rw (e, ne_eqb n.key k ne) refl
]

-- "so equal keys of b end in reverse", before those of a
pub merge_reverses : (k : ℕ) (bb aa : List Node) → only k (merge_in bb aa) ≡ backwards (only k bb) (only k aa)
merge_reverses k [] aa = refl
merge_reverses k (b ∷ bb) aa = elim (same? b.key k) [
  | same e p ↦
      let q : only k (insert b aa) ≡ b ∷ only k aa = rw (← p) (only-insert b aa) in
      rw e (merge_reverses k bb (insert b aa) ∙ ap (backwards (only k bb)) q)
  | other e p ↦ rw e (merge_reverses k bb (insert b aa) ∙ ap (backwards (only k bb)) (only_others k b aa p))
]

-- ---- levelling ----
level_at : (M k : ℕ) (xs : List Node) (i r : ℕ) → r ≡ k + i → i < length xs → LevelledAt M (at xs i) (at (level_from M k xs) i) r
level_at M k [] i r e l = absurd (omega arith)
level_at M k (x ∷ xs) zero r e l = record { slot = refl; key = refl; height = ap (twos M) (omega arith) }
level_at M k (x ∷ xs) (suc i) r e l = level_at M (suc k) xs i r (omega arith) (omega arith)

pub level_heights : (S : State) (a : ℕ) → refusal S (level a) ≡ 0 → (i : ℕ) → i < length (list_of S a)
    → LevelledAt S.levels (at (list_of S a) i) (at (list_of (result_of S (level a)) a) i) (suc i)
level_heights S a p i l =
    rw (accepted_result S (level a) p, get_or-set_same S.lists a (level_from S.levels 1 (list_of S a)) [] (allowed S (level a) p))
    (level_at S.levels 1 (list_of S a) i (suc i) (omega arith) l)

-- ---- calls that change nothing ----
module _ (S : State) where
  -- a list replaced by itself
  again : (a : ℕ) (xs : List Node) → xs ≡ list_of S a → set S.lists a xs ≡ S.lists
  again a xs e = ap (set S.lists a) e ∙ set-get_or S.lists a []

  -- "Truncate to n: nothing if n is the length or more"
  pub truncate_nothing : (a n : ℕ) → length (list_of S a) ≤ n → result_of S (truncate a n) ≡ S
  truncate_nothing a n l =
      after_any (λ T. T ≡ S) S (truncate a n)
      (λ p. rw (take_all n (list_of S a) l, drop_of_length-le (list_of S a) l, set-get_or S.lists a []) refl)
      refl

  -- "At the length it moves nothing."
  pub split_nothing : (a b : ℕ) → result_of S (split_at a b (length (list_of S a))) ≡ S
  split_nothing a b =
      let xs = list_of S a in
      after_any (λ T. T ≡ S) S (split_at a b (length xs))
      (λ p. ap (with_lists S)
      (ap₂ (λ (ls : List (List Node)) (ys : List Node). set ls b ys) (again a (take (length xs) xs) (take-length xs)) (drop-length xs)
      ∙ again b [] (sym p.1)))
      refl

  -- "Append of b to a: b empty, nothing."
  pub append_nothing : (a b : ℕ) → list_of S b ≡ [] → result_of S (append_list a b) ≡ S
  append_nothing a b e =
      let xs = list_of S a in
      after_any (λ T. T ≡ S) S (append_list a b)
      (λ p. ap (with_lists S) (ap (λ (ls : List (List Node)). set ls b []) (again a (append xs (list_of S b)) (ap (append xs) e)) ∙ again b [] (sym e)))
      refl
