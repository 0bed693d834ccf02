-- When a call is accepted: what each row of the table of refusals tests, said of the model. Rests on specs/Calls.
use Prim.Native.Nat.{ℕ, ◌≤◌, ◌<◌}
use mathlib.Core.Path.{◌≡◌, refl}
use mathlib.Core.Logic.{◌≢◌}
use mathlib.Core.Bool.{Bool, true, false, cond}
use mathlib.Core.List.{List, [], ◌∷◌}
use lib.Dec.{leb, ltb}
use lib.ListN.{length}
use native.Mathlib.Omega.{arith}
use borrow.Author.Tests.{le-leb, lt-ltb, leb-true, ltb-true, ne_eqb}
use Rattle.model.specs.Arena.{State, list_of}
use Rattle.model.specs.Calls.{Call, search, read, insert_key, remove_key, remove_index, truncate, clear, split_at, split_key, append_list, middle, level}
use Rattle.model.specs.Calls.{refusal, row3, row4, row7, row8}
use Rattle.model.specs.Walks.{ended, is_found, key_walk}
use Rattle.model.proofs.Tests.{same, other, same?}

-- The list number is below L; two list numbers are, and they differ.
abbrev pub One : State → ℕ → Type 0
One S a = a < length S.lists

abbrev pub Two : State → ℕ → ℕ → Type 0
Two S a b = (a < length S.lists) × (b < length S.lists) × (a ≢ b)

abbrev pub Allowed : State → Call → Type 0
Allowed S (search a k allowance) = One S a × ((ended (key_walk S.levels k (list_of S a))).tally ≤ allowance)
Allowed S (read a i) = One S a × (i < length (list_of S a))
Allowed S (insert_key a k h) = One S a × (h ≤ S.levels) × (0 < length S.free)
Allowed S (remove_key a k) = One S a × (is_found (key_walk S.levels k (list_of S a)) ≡ true)
Allowed S (remove_index a i) = One S a × (i < length (list_of S a))
Allowed S (truncate a n) = One S a
Allowed S (clear a) = One S a
Allowed S (split_at a b i) = Two S a b × (list_of S b ≡ []) × (i ≤ length (list_of S a))
Allowed S (split_key a b k) = Two S a b × (list_of S b ≡ [])
Allowed S (append_list a b) = Two S a b
Allowed S (middle a) = One S a × (0 < length (list_of S a))
Allowed S (level a) = One S a

-- ---- one row ----
-- a row that gives its number n > 0 where the test fails
passed : (b : Bool) (later n : ℕ) → 0 < n → cond b later n ≡ 0 → (b ≡ true) × (later ≡ 0)
passed true later n l e = (refl, e)
passed false later n l e = absurd (omega arith)

in3 : (S : State) (a later : ℕ) → row3 S a later ≡ 0 → One S a × (later ≡ 0)
in3 S a later e = let p = passed (ltb a (length S.lists)) later 3 (omega arith) e in (ltb-true a (length S.lists) p.0, p.1)

in4 : (a b later : ℕ) → row4 a b later ≡ 0 → (a ≢ b) × (later ≡ 0)
in4 a b later e = elim (same? a b) [ same f p ↦ absurd (omega (arith, rw f at e)) | other f p ↦ (p, rw f at e) ]

pub no_length : {A : Type 0} (xs : List A) → length xs ≡ 0 → xs ≡ []
no_length [] e = refl
no_length (x ∷ xs) e = absurd (omega arith)

in7 : (S : State) (b later : ℕ) → row7 S b later ≡ 0 → (list_of S b ≡ []) × (later ≡ 0)
in7 S b later e = elim (same? (length (list_of S b)) 0) [
  | same f p ↦ (no_length (list_of S b) p, rw f at e)
  | other f p ↦ absurd (omega (arith, rw f at e))
]

in8 : (b : Bool) → row8 b ≡ 0 → b ≡ true
in8 b e = (passed b 0 8 (omega arith) e).0

two : (S : State) (a b later : ℕ) → row3 S a (row3 S b (row4 a b later)) ≡ 0 → Two S a b × (later ≡ 0)
two S a b later e =
    let p = in3 S a (row3 S b (row4 a b later)) e in
    let q = in3 S b (row4 a b later) p.1 in
    let r = in4 a b later q.1 in
    ((p.0, q.0, r.0), r.1)

-- ---- accepted exactly when ----
pub allowed : (S : State) (c : Call) → refusal S c ≡ 0 → Allowed S c
allowed S (search a k w) e =
    let n = (ended (key_walk S.levels k (list_of S a))).tally in
    let p = in3 S a (cond (leb n w) 0 10) e in
    (p.0, leb-true n w (passed (leb n w) 0 10 (omega arith) p.1).0)
allowed S (read a i) e = let p = in3 S a _ e in (p.0, ltb-true i (length (list_of S a)) (in8 _ p.1))
allowed S (insert_key a k h) e =
    let f : ℕ = cond (ltb 0 (length S.free)) 0 6 in
    let p = in3 S a (cond (leb h S.levels) f 5) e in
    let q = passed (leb h S.levels) f 5 (omega arith) p.1 in
    (p.0, leb-true h S.levels q.0, ltb-true 0 (length S.free) (passed (ltb 0 (length S.free)) 0 6 (omega arith) q.1).0)
allowed S (remove_key a k) e = let p = in3 S a _ e in (p.0, (passed _ 0 9 (omega arith) p.1).0)
allowed S (remove_index a i) e = let p = in3 S a _ e in (p.0, ltb-true i (length (list_of S a)) (in8 _ p.1))
allowed S (truncate a n) e = (in3 S a 0 e).0
allowed S (clear a) e = (in3 S a 0 e).0
allowed S (split_at a b i) e =
    let p = two S a b _ e in
    let q = in7 S b _ p.1 in
    (p.0, q.0, leb-true i (length (list_of S a)) (in8 _ q.1))
allowed S (split_key a b k) e = let p = two S a b _ e in (p.0, (in7 S b 0 p.1).0)
allowed S (append_list a b) e = (two S a b 0 e).0
allowed S (middle a) e = let p = in3 S a _ e in (p.0, ltb-true 0 (length (list_of S a)) (in8 _ p.1))
allowed S (level a) e = (in3 S a 0 e).0

-- and the other way round: no other call is refused
module _ (S : State) where
  out3 : (a later : ℕ) → One S a → later ≡ 0 → row3 S a later ≡ 0
  out3 a later l e = rw (lt-ltb a (length S.lists) l) e

  out_two : (a b later : ℕ) → Two S a b → later ≡ 0 → row3 S a (row3 S b (row4 a b later)) ≡ 0
  out_two a b later p e = rw (lt-ltb a (length S.lists) p.0, lt-ltb b (length S.lists) p.1, ne_eqb a b p.2) e

  out7 : (b later : ℕ) → list_of S b ≡ [] → later ≡ 0 → row7 S b later ≡ 0
  out7 b later p e = rw p e

  out8 : (b : Bool) → b ≡ true → row8 b ≡ 0
  out8 b e = rw e refl

pub not_refused : (S : State) (c : Call) → Allowed S c → refusal S c ≡ 0
not_refused S (search a k w) p = out3 S a _ p.0 (rw (le-leb (ended (key_walk S.levels k (list_of S a))).tally w p.1) refl)
not_refused S (read a i) p = out3 S a _ p.0 (out8 S _ (lt-ltb i (length (list_of S a)) p.1))
not_refused S (insert_key a k h) p = out3 S a _ p.0 (rw (le-leb h S.levels p.1, lt-ltb 0 (length S.free) p.2) refl)
not_refused S (remove_key a k) p = out3 S a _ p.0 (rw p.1 refl)
not_refused S (remove_index a i) p = out3 S a _ p.0 (out8 S _ (lt-ltb i (length (list_of S a)) p.1))
not_refused S (truncate a n) p = out3 S a 0 p refl
not_refused S (clear a) p = out3 S a 0 p refl
not_refused S (split_at a b i) p = out_two S a b _ p.0 (out7 S b _ p.1 (out8 S _ (le-leb i (length (list_of S a)) p.2)))
not_refused S (split_key a b k) p = out_two S a b _ p.0 (out7 S b 0 p.1 refl)
not_refused S (append_list a b) p = out_two S a b 0 p refl
not_refused S (middle a) p = out3 S a _ p.0 (out8 S _ (lt-ltb 0 (length (list_of S a)) p.1))
not_refused S (level a) p = out3 S a 0 p refl
