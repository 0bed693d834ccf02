-- "The lowest number that applies is given": of the rows that apply to a call `refusal` gives the lowest, and 0 where none applies.
-- Rests on specs/Refusals (the table) and ByKey (a key is found exactly when it is there).
use Prim.Native.Nat.{ℕ, suc, ◌≤◌, ◌<◌}
use mathlib.Core.Path.{◌≡◌, refl, ap, ◌∙◌}
use mathlib.Core.Logic.{◌≢◌, inl, inr}
use mathlib.Core.Bool.{Bool, true, false, cond}
use mathlib.Core.List.{List, [], ◌∷◌}
use lib.Dec.{leb}
use lib.ListN.{length}
use native.Mathlib.Omega.{arith}
use borrow.Author.Tests.{le-ltb, lt-leb, eq-eqb}
use Rattle.model.specs.Arena.{State, list_of}
use Rattle.model.specs.Calls.{Call, search, read, insert_key, remove_key, remove_index, truncate, clear, split_at, split_key, append_list, middle, level}
use Rattle.model.specs.Calls.{refusal, row3, row4, row7, names}
use Rattle.model.specs.Nodes.{Node}
use Rattle.model.specs.Passes.{Sound}
use Rattle.model.specs.Refusals.{Past, Applies, no_list, same_lists, too_high, none_free, not_empty_at, not_empty_key}
use Rattle.model.specs.Refusals.{read_past, remove_past, split_past, no_middle, no_key, over}
use Rattle.model.specs.Walks.{ended, is_found, key_walk}
use Rattle.model.proofs.Allowed.{no_length}
use Rattle.model.proofs.ByKey.{key_missing, key_found}
use Rattle.model.proofs.Keeps.{sorted-list}
use Rattle.model.proofs.Tests.{same, other, same?, hit, miss, test}

-- ---- what is given applies ----
-- P of the number that a row gives, from P of it where the row's test fails and of the later rows where it holds
module _ (P : ℕ → Type 0) (S : State) where
  at3 : (a later : ℕ) → (length S.lists ≤ a → P 3) → P later → P (row3 S a later)
  at3 a later f p = elim (test (suc a) (length S.lists)) [ hit e q ↦ rw e p | miss e q ↦ rw e (f (omega arith)) ]

  at4 : (a b later : ℕ) → (a ≡ b → P 4) → P later → P (row4 a b later)
  at4 a b later f p = elim (same? a b) [ same e q ↦ rw e (f q) | other e q ↦ rw e p ]

  at7 : (b later : ℕ) → (list_of S b ≢ [] → P 7) → P later → P (row7 S b later)
  at7 b later f p = elim (same? (length (list_of S b)) 0) [
    | same e q ↦ rw e p
    | other e q ↦ rw e (f (λ z. q (ap (λ (xs : List Node). length xs) z)))
  ]

  at_le : (m n later k : ℕ) → (n < m → P k) → P later → P (cond (leb m n) later k)
  at_le m n later k f p = elim (test m n) [ hit e q ↦ rw e p | miss e q ↦ rw e (f q) ]

  at-bool : (b : Bool) (later k : ℕ) → (b ≡ false → P k) → P later → P (cond b later k)
  at-bool true later k f p = p
  at-bool false later k f p = f refl

module _ (S : State) (v : Sound S) where
  -- a number that is not 0 applies
  abbrev Good : Call → ℕ → Type 0
  Good c n = 0 < n → Applies S c n

  none : (c : Call) → Good c 0
  none c l = absurd (omega arith)

  one : (c : Call) (a later : ℕ) → (length S.lists ≤ a → Past (length S.lists) (names c)) → Good c later → Good c (row3 S a later)
  one c a later f p = at3 (Good c) S a later (λ l z. no_list (f l)) p

  two : (c : Call) (a b later : ℕ) → names c ≡ a ∷ b ∷ [] → Good c later → Good c (row3 S a (row3 S b (row4 a b later)))
  two c a b later e p =
      let fourth = at4 (Good c) S a b later (λ q z. same_lists {a = b} (e ∙ ap (λ (x : ℕ). x ∷ b ∷ []) q)) p in
      one c a _ (λ l. rw e (inl l)) (one c b _ (λ l. rw e (inr (inl l))) fourth)

  pub given-applies : (c : Call) → 0 < refusal S c → Applies S c (refusal S c)
  given-applies (search a k w) = one (search a k w) a _ inl (at_le (Good (search a k w)) S _ w 0 10 (λ l z. over l) (none (search a k w)))
  given-applies (read a i) = one (read a i) a _ inl (at_le (Good (read a i)) S (suc i) _ 0 8 (λ l z. read_past (omega arith)) (none (read a i)))
  given-applies (insert_key a k h) =
      let c = insert_key a k h in
      let room = at_le (Good c) S 1 (length S.free) 0 6 (λ l z. none_free (no_length S.free (omega (arith, l)))) (none c) in
      one c a _ inl (at_le (Good c) S h S.levels _ 5 (λ l z. too_high l) room)
  given-applies (remove_key a k) =
      let c = remove_key a k in
      one c a _ inl (at-bool (Good c) S (is_found (key_walk S.levels k (list_of S a))) 0 9 (λ e z. no_key (key_missing S.levels k (list_of S a) (sorted-list S v a) e)) (none c))
  given-applies (remove_index a i) = one (remove_index a i) a _ inl (at_le (Good (remove_index a i)) S (suc i) _ 0 8 (λ l z. remove_past (omega arith)) (none (remove_index a i)))
  given-applies (truncate a n) = one (truncate a n) a 0 inl (none (truncate a n))
  given-applies (clear a) = one (clear a) a 0 inl (none (clear a))
  given-applies (split_at a b i) =
      let c = split_at a b i in
      two c a b _ refl (at7 (Good c) S b _ (λ n z. not_empty_at n) (at_le (Good c) S i _ 0 8 (λ l z. split_past l) (none c)))
  given-applies (split_key a b k) =
      let c = split_key a b k in
      two c a b _ refl (at7 (Good c) S b 0 (λ n z. not_empty_key n) (none c))
  given-applies (append_list a b) = two (append_list a b) a b 0 refl (none (append_list a b))
  given-applies (middle a) =
      let c = middle a in
      one c a _ inl (at_le (Good c) S 1 (length (list_of S a)) 0 8 (λ l z. no_middle (no_length (list_of S a) (omega (arith, l)))) (none c))
  given-applies (level a) = one (level a) a 0 inl (none (level a))

-- ---- what applies is not below what is given ----
-- n refuses, with a number of m at most
abbrev Within : ℕ → ℕ → Type 0
Within m n = (0 < n) × (n ≤ m)

module _ (S : State) where
  under3 : (m a later : ℕ) → 3 ≤ m → Within m later → Within m (row3 S a later)
  under3 m a later l p = at3 (Within m) S a later (λ q. (omega arith, l)) p

  under4 : (m a b later : ℕ) → 4 ≤ m → Within m later → Within m (row4 a b later)
  under4 m a b later l p = at4 (Within m) S a b later (λ q. (omega arith, l)) p

  under7 : (m b later : ℕ) → 7 ≤ m → Within m later → Within m (row7 S b later)
  under7 m b later l p = at7 (Within m) S b later (λ q. (omega arith, l)) p

  under_two : (m a b later : ℕ) → 4 ≤ m → Within m later → Within m (row3 S a (row3 S b (row4 a b later)))
  under_two m a b later l p = under3 m a _ (omega arith) (under3 m b _ (omega arith) (under4 m a b later l p))

  past3 : (a later : ℕ) → length S.lists ≤ a → Within 3 (row3 S a later)
  past3 a later l = rw (le-ltb a (length S.lists) l) (omega arith)

  past_one : (a later : ℕ) → Past (length S.lists) (a ∷ []) → Within 3 (row3 S a later)
  past_one a later p = elim p [ inl l ↦ past3 a later l | inr q ↦ absurd q ]

  past_two : (a b later : ℕ) → Past (length S.lists) (a ∷ b ∷ []) → Within 3 (row3 S a (row3 S b later))
  past_two a b later p = elim p [
    | inl l ↦ past3 a _ l
    | inr q ↦ under3 3 a _ (omega arith) (past_one b later q)
  ]

  past-any : (c : Call) → Past (length S.lists) (names c) → Within 3 (refusal S c)
  past-any (search a k w) p = past_one a _ p
  past-any (read a i) p = past_one a _ p
  past-any (insert_key a k h) p = past_one a _ p
  past-any (remove_key a k) p = past_one a _ p
  past-any (remove_index a i) p = past_one a _ p
  past-any (truncate a n) p = past_one a _ p
  past-any (clear a) p = past_one a _ p
  past-any (split_at a b i) p = past_two a b _ p
  past-any (split_key a b k) p = past_two a b _ p
  past-any (append_list a b) p = past_two a b _ p
  past-any (middle a) p = past_one a _ p
  past-any (level a) p = past_one a _ p

  same-two : (a b x later : ℕ) → a ∷ b ∷ [] ≡ x ∷ x ∷ [] → Within 4 (row3 S a (row3 S b (row4 a b later)))
  same-two a b x later e =
      let q : a ≡ b = cc in
      under3 4 a _ (omega arith) (under3 4 b _ (omega arith) (rw (eq-eqb a b q) (omega arith)))

  one_not_two : {a x : ℕ} {P : Type 0} → a ∷ [] ≡ x ∷ x ∷ [] → P
  one_not_two e = absurd (omega (arith, ap (λ (l : List ℕ). length l) e))

  same-any : (c : Call) (x : ℕ) → names c ≡ x ∷ x ∷ [] → Within 4 (refusal S c)
  same-any (search a k w) x e = one_not_two e
  same-any (read a i) x e = one_not_two e
  same-any (insert_key a k h) x e = one_not_two e
  same-any (remove_key a k) x e = one_not_two e
  same-any (remove_index a i) x e = one_not_two e
  same-any (truncate a n) x e = one_not_two e
  same-any (clear a) x e = one_not_two e
  same-any (split_at a b i) x e = same-two a b x _ e
  same-any (split_key a b k) x e = same-two a b x _ e
  same-any (append_list a b) x e = same-two a b x _ e
  same-any (middle a) x e = one_not_two e
  same-any (level a) x e = one_not_two e

  seven : (b later : ℕ) → list_of S b ≢ [] → Within 7 (row7 S b later)
  seven b later n = elim (same? (length (list_of S b)) 0) [
    | same e q ↦ absurd (n (no_length (list_of S b) q))
    | other e q ↦ rw e (omega arith)
  ]

  pub none_lower : Sound S → {c : Call} {m : ℕ} → Applies S c m → (0 < refusal S c) × (refusal S c ≤ m)
  none_lower v (no_list {c} p) = past-any c p
  none_lower v (same_lists {c} {a} e) = same-any c a e
  none_lower v (too_high {a} {k} {h} l) = under3 5 a _ (omega arith) (rw (lt-leb h S.levels l) (omega arith))
  none_lower v (none_free {a} {k} {h} e) = under3 6 a _ (omega arith) (at_le (Within 6) S h S.levels _ 5 (λ l. omega arith) (rw e (omega arith)))
  none_lower v (not_empty_at {a} {b} {i} n) = under_two 7 a b _ (omega arith) (seven b _ n)
  none_lower v (not_empty_key {a} {b} {k} n) = under_two 7 a b _ (omega arith) (seven b _ n)
  none_lower v (read_past {a} {i} l) = under3 8 a _ (omega arith) (rw (le-ltb i (length (list_of S a)) l) (omega arith))
  none_lower v (remove_past {a} {i} l) = under3 8 a _ (omega arith) (rw (le-ltb i (length (list_of S a)) l) (omega arith))
  none_lower v (split_past {a} {b} {i} l) = under_two 8 a b _ (omega arith) (under7 8 b _ (omega arith) (rw (lt-leb i (length (list_of S a)) l) (omega arith)))
  none_lower v (no_middle {a} e) = under3 8 a _ (omega arith) (rw e (omega arith))
  none_lower v (no_key {a} {k} n) = under3 9 a _ (omega arith) (met (is_found (key_walk S.levels k (list_of S a))) refl)
    where
      met : (b : Bool) → is_found (key_walk S.levels k (list_of S a)) ≡ b → Within 9 (cond b 0 9)
      met true e = let f = key_found S.levels k (list_of S a) (sorted-list S v a) e in absurd (n _ f.within f.equal)
      met false e = omega arith
  none_lower v (over {a} {k} {allowance = w} l) = under3 10 a _ (omega arith) (rw (lt-leb (ended (key_walk S.levels k (list_of S a))).tally w l) (omega arith))

-- ---- both together ----
module _ (S : State) (v : Sound S) (c : Call) where
  -- "The lowest number that applies is given."
  pub lowest_given : (n : ℕ) → Applies S c n → ((m : ℕ) → Applies S c m → n ≤ m) → refusal S c ≡ n
  lowest_given n p f =
      let b = none_lower S v p in
      let g = f (refusal S c) (given-applies S v c b.0) in
      omega arith

  -- a call is accepted exactly when no row applies
  pub accepted_clear : refusal S c ≡ 0 → (m : ℕ) → Applies S c m → ⊥
  accepted_clear e m p = omega (arith, none_lower S v p)

  pub clear_accepted : ((m : ℕ) → Applies S c m → ⊥) → refusal S c ≡ 0
  clear_accepted f = elim (same? (refusal S c) 0) [ same e q ↦ q | other e q ↦ absurd (f (refusal S c) (given-applies S v c (omega arith))) ]
