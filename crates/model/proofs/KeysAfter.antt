-- "What each operation leaves", as key sequences: what list a holds after each accepted call, said of the keys before.
-- Rests on EveryCall, Keys (an append keeps every key as often) and Searching (the number of smaller keys).
use Prim.Native.Nat.{ℕ, zero, suc, ◌<◌}
use mathlib.Core.Path.{◌≡◌, refl, sym, ap, ap₂, ◌∙◌}
use mathlib.Core.Logic.{◌≢◌}
use mathlib.Core.List.{List, [], ◌∷◌, ◌++◌, map-append}
use lib.ListN.{length, take, drop, get_or, set, get_or-map}
use lib.Seq.{get_or-set_same, get_or-set_other, lt-length-set}
use native.Mathlib.Omega.{arith}
use Rattle.model.specs.Claims.{often, Appended}
use Rattle.model.specs.Arena.{State, list_of}
use Rattle.model.specs.Calls.{Call, insert_key, remove_key, remove_index, truncate, clear, split_at, split_key, append_list, level, insert_in, performed, refusal, result_of}
use Rattle.model.specs.Lists.{insert_at, insert, remove_at, append, level_from}
use Rattle.model.specs.Nodes.{Node, node, N, keys, key_at, smaller, smaller_keys}
use Rattle.model.specs.Passes.{Sound}
use Rattle.model.proofs.Allowed.{allowed}
use Rattle.model.proofs.EveryCall.{sound-after}
use Rattle.model.proofs.Keeps.{sorted-list}
use Rattle.model.proofs.Keys.{often-join}
use Rattle.model.proofs.Searching.{smaller-all}

-- ---- keys of parts ----
abbrev key_of : Node → ℕ
key_of y = y.key

keys-take : (n : ℕ) (xs : List Node) → keys (take n xs) ≡ take n (keys xs)
keys-take zero xs = refl
keys-take (suc n) [] = refl
keys-take (suc n) (x ∷ xs) = ap (λ (t : List ℕ). x.key ∷ t) (keys-take n xs)

keys-drop : (n : ℕ) (xs : List Node) → keys (drop n xs) ≡ drop n (keys xs)
keys-drop zero xs = refl
keys-drop (suc n) [] = refl
keys-drop (suc n) (x ∷ xs) = keys-drop n xs

keys-insert : (p : ℕ) (n : Node) (xs : List Node) → keys (insert_at p n xs) ≡ take p (keys xs) ++ n.key ∷ drop p (keys xs)
keys-insert p n xs = map-append key_of (take p xs) (n ∷ drop p xs) ∙ ap₂ (λ (x y : List ℕ). x ++ n.key ∷ y) (keys-take p xs) (keys-drop p xs)

keys_remove : (p : ℕ) (xs : List Node) → keys (remove_at p xs) ≡ take p (keys xs) ++ drop (suc p) (keys xs)
keys_remove p xs = map-append key_of (take p xs) (drop (suc p) xs) ∙ ap₂ (λ (x y : List ℕ). x ++ y) (keys-take p xs) (keys-drop (suc p) xs)

-- the key at an index is that of the sequence
pub key_at_lem : (xs : List Node) (i : ℕ) → key_at xs i ≡ get_or (keys xs) i 0
key_at_lem xs i = sym (get_or-map key_of xs i (node N 0 0))

-- ---- lists after ----
-- the keys of list a after a call
abbrev pub keys_after : State → Call → ℕ → List ℕ
keys_after S c a = keys (list_of (result_of S c) a)

pub accepted_result : (S : State) (c : Call) → refusal S c ≡ 0 → result_of S c ≡ performed S c
accepted_result S c p = rw p refl

module _ (S : State) (c : Call) (p : refusal S c ≡ 0) (a : ℕ) where
  from : {xs : List Node} → list_of (performed S c) a ≡ xs → {ks : List ℕ} → keys xs ≡ ks → keys_after S c a ≡ ks
  from {xs} e {ks} f = ap (λ (T : State). keys (list_of T a)) (accepted_result S c p) ∙ ap (λ (ys : List Node). keys ys) e ∙ f

module _ (S : State) (v : Sound S) (a : ℕ) where
  abbrev now : List ℕ
  now = keys (list_of S a)

  -- the number of keys of list a that are smaller than k
  abbrev before : ℕ → ℕ
  before k = smaller_keys k (list_of S a)

  first_not_below : (k : ℕ) → smaller k (list_of S a) ≡ before k
  first_not_below k = smaller-all k (list_of S a) (sorted-list S v a)

  inserted : (k h : ℕ) (fs : List ℕ) → a < length S.lists → 0 < length fs → keys (list_of (insert_in S a k h fs) a) ≡ take (before k) now ++ k ∷ drop (before k) now
  inserted k h [] l z = absurd (omega arith)
  inserted k h (f ∷ fs) l z =
      let n = node f k h in
      ap (λ (xs : List Node). keys xs) (get_or-set_same S.lists a (insert n (list_of S a)) [] l) ∙ keys-insert (smaller k (list_of S a)) n (list_of S a)
      ∙ (rw (first_not_below k) refl)

  -- "stands before the first key not below its own, so before all equal keys, or last if there is no such key"
  pub keys-inserted : (k h : ℕ) → refusal S (insert_key a k h) ≡ 0 → keys_after S (insert_key a k h) a ≡ take (before k) now ++ k ∷ drop (before k) now
  keys-inserted k h p =
      let q = allowed S (insert_key a k h) p in
      ap (λ (T : State). keys (list_of T a)) (accepted_result S (insert_key a k h) p) ∙ inserted k h S.free q.0 q.2

  -- "Remove, by key (the first equal) or index"
  pub keys_removed : (i : ℕ) → refusal S (remove_index a i) ≡ 0 → keys_after S (remove_index a i) a ≡ take i now ++ drop (suc i) now
  keys_removed i p = from S (remove_index a i) p a (get_or-set_same S.lists a (remove_at i (list_of S a)) [] (allowed S (remove_index a i) p).0) (keys_remove i (list_of S a))

  pub keys_removed_key : (k : ℕ) → refusal S (remove_key a k) ≡ 0 → keys_after S (remove_key a k) a ≡ take (before k) now ++ drop (suc (before k)) now
  keys_removed_key k p =
      let q = allowed S (remove_key a k) p in
      let i = smaller k (list_of S a) in
      from S (remove_key a k) p a (get_or-set_same S.lists a (remove_at i (list_of S a)) [] q.0) (keys_remove i (list_of S a) ∙ (rw (first_not_below k) refl))

  -- "the first n stay"; "Clear is truncate to 0"
  pub keys_truncated : (n : ℕ) → refusal S (truncate a n) ≡ 0 → keys_after S (truncate a n) a ≡ take n now
  keys_truncated n p = from S (truncate a n) p a (get_or-set_same S.lists a (take n (list_of S a)) [] (allowed S (truncate a n) p)) (keys-take n (list_of S a))

  pub keys_cleared : refusal S (clear a) ≡ 0 → keys_after S (clear a) a ≡ []
  keys_cleared p = from S (clear a) p a (get_or-set_same S.lists a [] [] (allowed S (clear a) p)) refl

  -- "slots and keys stay"
  pub keys-levelled : refusal S (level a) ≡ 0 → keys_after S (level a) a ≡ now
  keys-levelled p = from S (level a) p a (get_or-set_same S.lists a (level_from S.levels 1 (list_of S a)) [] (allowed S (level a) p)) (keys_level 1 (list_of S a))
    where
      keys_level : (k : ℕ) (xs : List Node) → keys (level_from S.levels k xs) ≡ keys xs
      keys_level k [] = refl
      keys_level k (x ∷ xs) = ap (λ (t : List ℕ). x.key ∷ t) (keys_level (suc k) xs)

  -- ---- two lists ----
  module _ (b : ℕ) where
    module _ (la : a < length S.lists) (lb : b < length S.lists) (ne : a ≢ b) (A B : List Node) where
      left : get_or (set (set S.lists a A) b B) a [] ≡ A
      left = get_or-set_other (set S.lists a A) b a B [] ne ∙ get_or-set_same S.lists a A [] la

      right : get_or (set (set S.lists a A) b B) b [] ≡ B
      right = get_or-set_same (set S.lists a A) b B [] (lt-length-set S.lists a A lb)

    -- "Split at i moves everything from index i into the empty receiving list."
    pub keys-split : (i : ℕ) → refusal S (split_at a b i) ≡ 0 → (keys_after S (split_at a b i) a ≡ take i now) × (keys_after S (split_at a b i) b ≡ drop i now)
    keys-split i p =
        let q = (allowed S (split_at a b i) p).0 in
        let xs = list_of S a in (
          from S (split_at a b i) p a (left q.0 q.1 q.2 (take i xs) (drop i xs)) (keys-take i xs),
          from S (split_at a b i) p b (right q.0 q.1 q.2 (take i xs) (drop i xs)) (keys-drop i xs),
        )

    -- "Split by key splits at the number of smaller keys, so equals move."
    pub keys-split_key : (k : ℕ) → refusal S (split_key a b k) ≡ 0
        → (keys_after S (split_key a b k) a ≡ take (before k) now) × (keys_after S (split_key a b k) b ≡ drop (before k) now)
    keys-split_key k p =
        let q = (allowed S (split_key a b k) p).0 in
        let xs = list_of S a in
        let i = smaller k xs in (
          from S (split_key a b k) p a (left q.0 q.1 q.2 (take i xs) (drop i xs)) (keys-take i xs ∙ (rw (first_not_below k) refl)),
          from S (split_key a b k) p b (right q.0 q.1 q.2 (take i xs) (drop i xs)) (keys-drop i xs ∙ (rw (first_not_below k) refl)),
        )

    -- Append: "b ends empty."
    pub keys-appended : refusal S (append_list a b) ≡ 0 → Appended S a b (result_of S (append_list a b))
    keys-appended p =
        let q = allowed S (append_list a b) p in
        let T = result_of S (append_list a b) in
        let e = accepted_result S (append_list a b) p in
        let xs = append (list_of S a) (list_of S b) in
        record {
          all_there = λ k. ap (λ (U : State). often k (list_of U a)) e ∙ ap (often k) (left q.0 q.1 q.2 xs []) ∙ often-join k (list_of S a) (list_of S b);
          in_order = sorted-list T (sound-after S v (append_list a b)) a;
          empty = ap (λ (U : State). list_of U b) e ∙ right q.0 q.1 q.2 xs [];
        }
