-- The table of refusals as document 01 prints it, row by row: which numbers apply to a call. The number given is the lowest (proofs/Refusals).
-- Rows 1 and 2 are `Promise` and `SetUpPromise` of Calls; 11 to 13 have no arena. Rests on Calls.
use Rattle.std.specs.Prelude.{ℕ, ◌≤◌, ◌<◌, ◌≡◌, ◌≢◌, ◌⊎◌, List, [], ◌∷◌, length}
use Rattle.model.specs.Nodes.{key_at}
use Rattle.model.specs.Walks.{ended, key_walk}
use Rattle.model.specs.Arena.{State, list_of}
use Rattle.model.specs.Calls.{Call, search, read, insert_key, remove_key, remove_index, split_at, split_key, middle, names}

-- One of these list numbers is L or more.
abbrev pub Past : ℕ → List ℕ → Type 0
Past L [] = ⊥
Past L (a ∷ cs) = (L ≤ a) ⊎ Past L cs

pub data Applies (S : State) : Call → ℕ → Type 0 where
  -- "3: a list number is L or more"
  no_list : {c : Call} → Past (length S.lists) (names c) → Applies S c 3
  -- "4: the two lists named are the same"
  same_lists : {c : Call} {a : ℕ} → names c ≡ a ∷ a ∷ [] → Applies S c 4
  -- "5: the height is above M"
  too_high : {a k h : ℕ} → S.levels < h → Applies S (insert_key a k h) 5
  -- "6: insert: no free slot"
  none_free : {a k h : ℕ} → S.free ≡ [] → Applies S (insert_key a k h) 6
  -- "7: split: the receiving list isn't empty"
  not_empty_at : {a b i : ℕ} → list_of S b ≢ [] → Applies S (split_at a b i) 7
  not_empty_key : {a b k : ℕ} → list_of S b ≢ [] → Applies S (split_key a b k) 7
  -- "8: index at or past the length (read, remove by index); split at more than the length; middle of an empty list"
  read_past : {a i : ℕ} → length (list_of S a) ≤ i → Applies S (read a i) 8
  remove_past : {a i : ℕ} → length (list_of S a) ≤ i → Applies S (remove_index a i) 8
  split_past : {a b i : ℕ} → length (list_of S a) < i → Applies S (split_at a b i) 8
  no_middle : {a : ℕ} → list_of S a ≡ [] → Applies S (middle a) 8
  -- "9: remove by key: no such key"
  no_key : {a k : ℕ} → ((i : ℕ) → i < length (list_of S a) → key_at (list_of S a) i ≢ k) → Applies S (remove_key a k) 9
  -- "10: search: the walk's tally is above the allowance"
  over : {a k allowance : ℕ} → allowance < (ended (key_walk S.levels k (list_of S a))).tally → Applies S (search a k allowance) 10
