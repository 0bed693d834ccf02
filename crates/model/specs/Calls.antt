-- The calls: what each does to a model, which refusal it gives, what it answers, and the promise that every public call makes of words.
-- Rests on Walks, Lists, Arena and Passes.
use Rattle.std.specs.Prelude.{ℕ, suc, ◌+◌, ◌*◌, ◌≡◌, ◌≢◌, Bool, true, cond, List, [], ◌∷◌, leb, ltb, eqb, length, take, drop}
use Rattle.model.specs.Nodes.{node, key_at, slot_at, smaller}
use Rattle.model.specs.Walks.{ended, is_found, place_of, key_walk}
use Rattle.model.specs.Lists.{insert, remove_at, freed, append, middle_of, level_from}
use Rattle.model.specs.Arena.{State, header_words, width, list_of, put_list, encode, set_up}
use Rattle.model.specs.Passes.{decode, Ranges, Passes}

-- ---- what each operation leaves ----
-- "Only the named lists, their nodes and the free chain change."

-- "Insert takes the first free slot".
abbrev pub insert_in : State → ℕ → ℕ → ℕ → List ℕ → State
insert_in S a k h [] = S
insert_in S a k h (f ∷ fs) = put_list S a (insert (node f k h) (list_of S a)) fs

abbrev pub do_insert : State → ℕ → ℕ → ℕ → State
do_insert S a k h = insert_in S a k h S.free

-- "Remove .. puts its slot in front of the free chain."
abbrev pub do_remove : State → ℕ → ℕ → State
do_remove S a i = put_list S a (remove_at i (list_of S a)) (slot_at a (list_of S a) (suc i) ∷ S.free)

-- "Truncate to n: nothing if n is the length or more; else the first n stay and the rest are freed in list order". "Clear is truncate to 0."
abbrev pub do_truncate : State → ℕ → ℕ → State
do_truncate S a n = put_list S a (take n (list_of S a)) (freed (drop n (list_of S a)) S.free)

-- "Split at i moves everything from index i into the empty receiving list."
abbrev pub do_split : State → ℕ → ℕ → ℕ → State
do_split S a b i = let xs = list_of S a in put_list (put_list S a (take i xs) S.free) b (drop i xs) S.free

abbrev pub do_append : State → ℕ → ℕ → State
do_append S a b = put_list (put_list S a (append (list_of S a) (list_of S b)) S.free) b [] S.free

abbrev pub do_level : State → ℕ → State
do_level S a = put_list S a (level_from S.levels 1 (list_of S a)) S.free

-- ---- the calls on an arena, in document 01's order ----
pub data Call : Type 0 where
  search : ℕ → ℕ → ℕ → Call
  read : ℕ → ℕ → Call
  insert_key : ℕ → ℕ → ℕ → Call
  remove_key : ℕ → ℕ → Call
  remove_index : ℕ → ℕ → Call
  truncate : ℕ → ℕ → Call
  clear : ℕ → Call
  split_at : ℕ → ℕ → ℕ → Call
  split_key : ℕ → ℕ → ℕ → Call
  append_list : ℕ → ℕ → Call
  middle : ℕ → Call
  level : ℕ → Call

-- The lists that a call names.
abbrev pub names : Call → List ℕ
names (search a k allowance) = a ∷ []
names (read a i) = a ∷ []
names (insert_key a k h) = a ∷ []
names (remove_key a k) = a ∷ []
names (remove_index a i) = a ∷ []
names (truncate a n) = a ∷ []
names (clear a) = a ∷ []
names (split_at a b i) = a ∷ b ∷ []
names (split_key a b k) = a ∷ b ∷ []
names (append_list a b) = a ∷ b ∷ []
names (middle a) = a ∷ []
names (level a) = a ∷ []

-- b is none of these lists.
abbrev pub Unnamed : ℕ → List ℕ → Type 0
Unnamed b [] = Unit {0}
Unnamed b (a ∷ cs) = (b ≢ a) × Unnamed b cs

-- ---- refusals, "the lowest number that applies"; 0 where the call is accepted ----
-- "3: a list number is L or more"; "4: the two lists named are the same"; "7: the receiving list isn't empty"; "8: index at or past the length".
abbrev pub row3 : State → ℕ → ℕ → ℕ
row3 S a later = cond (ltb a (length S.lists)) later 3

abbrev pub row4 : ℕ → ℕ → ℕ → ℕ
row4 a b later = cond (eqb a b) 4 later

abbrev pub row7 : State → ℕ → ℕ → ℕ
row7 S b later = cond (eqb (length (list_of S b)) 0) later 7

abbrev pub row8 : Bool → ℕ
row8 within = cond within 0 8

abbrev pub refusal : State → Call → ℕ
refusal S (search a k allowance) = row3 S a (cond (leb (ended (key_walk S.levels k (list_of S a))).tally allowance) 0 10)
refusal S (read a i) = row3 S a (row8 (ltb i (length (list_of S a))))
refusal S (insert_key a k h) = row3 S a (cond (leb h S.levels) (cond (ltb 0 (length S.free)) 0 6) 5)
refusal S (remove_key a k) = row3 S a (cond (is_found (key_walk S.levels k (list_of S a))) 0 9)
refusal S (remove_index a i) = row3 S a (row8 (ltb i (length (list_of S a))))
refusal S (truncate a n) = row3 S a 0
refusal S (clear a) = row3 S a 0
refusal S (split_at a b i) = row3 S a (row3 S b (row4 a b (row7 S b (row8 (leb i (length (list_of S a)))))))
refusal S (split_key a b k) = row3 S a (row3 S b (row4 a b (row7 S b 0)))
refusal S (append_list a b) = row3 S a (row3 S b (row4 a b 0))
refusal S (middle a) = row3 S a (row8 (ltb 0 (length (list_of S a))))
refusal S (level a) = row3 S a 0

-- ---- answers ----
-- The number, found as 1 or 0, an index or place, a key, a tally; 0 where the call has no such answer.
pub record Answer : Type 0 where
  pub number : ℕ
  pub found : ℕ
  pub place : ℕ
  pub key : ℕ
  pub tally : ℕ

-- "An accepted call answers number 0. Beside it the search answers as told below": "found with index r, or missing with place r, .. and the tally".
abbrev pub searched : Bool → ℕ → ℕ → Answer
searched met r n = record { number = 0; found = cond met 1 0; place = r; key = 0; tally = n }

-- "read, both removes .. a key"; request K2: "The middle call answers twice the median", which stands in the place of a key.
abbrev pub keyed : ℕ → Answer
keyed k = record { number = 0; found = 0; place = 0; key = k; tally = 0 }

-- "the other calls answer nothing more".
abbrev pub plain : Answer
plain = record { number = 0; found = 0; place = 0; key = 0; tally = 0 }

-- "A refusal returns zeros beside its number".
abbrev pub refused : ℕ → Answer
refused n = record { number = n; found = 0; place = 0; key = 0; tally = 0 }

-- "except 10, which returns the allowance as its tally."
abbrev pub beyond : ℕ → Answer
beyond allowance = record { number = 10; found = 0; place = 0; key = 0; tally = allowance }

abbrev pub accepted : State → Call → Answer
accepted S (search a k allowance) = let e = key_walk S.levels k (list_of S a) in searched (is_found e) (place_of e) (ended e).tally
accepted S (read a i) = keyed (key_at (list_of S a) i)
accepted S (insert_key a k h) = plain
accepted S (remove_key a k) = keyed k
accepted S (remove_index a i) = keyed (key_at (list_of S a) i)
accepted S (truncate a n) = plain
accepted S (clear a) = plain
accepted S (split_at a b i) = plain
accepted S (split_key a b k) = plain
accepted S (append_list a b) = plain
accepted S (middle a) = keyed (middle_of (list_of S a))
accepted S (level a) = plain

-- "Only the search takes an allowance".
abbrev pub allowance_of : Call → ℕ
allowance_of (search a k allowance) = allowance
allowance_of (read a i) = 0
allowance_of (insert_key a k h) = 0
allowance_of (remove_key a k) = 0
allowance_of (remove_index a i) = 0
allowance_of (truncate a n) = 0
allowance_of (clear a) = 0
allowance_of (split_at a b i) = 0
allowance_of (split_key a b k) = 0
allowance_of (append_list a b) = 0
allowance_of (middle a) = 0
allowance_of (level a) = 0

abbrev pub declined : ℕ → Call → Answer
declined n c = cond (eqb n 10) (beyond (allowance_of c)) (refused n)

abbrev pub performed : State → Call → State
performed S (search a k allowance) = S
performed S (read a i) = S
performed S (insert_key a k h) = do_insert S a k h
performed S (remove_key a k) = do_remove S a (smaller k (list_of S a))
performed S (remove_index a i) = do_remove S a i
performed S (truncate a n) = do_truncate S a n
performed S (clear a) = do_truncate S a 0
performed S (split_at a b i) = do_split S a b i
performed S (split_key a b k) = do_split S a b (smaller k (list_of S a))
performed S (append_list a b) = do_append S a b
performed S (middle a) = S
performed S (level a) = do_level S a

-- What a call answers on a model, and the model that it leaves.
abbrev pub answer_to : State → Call → Answer
answer_to S c = cond (eqb (refusal S c) 0) (accepted S c) (declined (refusal S c) c)

abbrev pub result_of : State → Call → State
result_of S c = cond (eqb (refusal S c) 0) (performed S c) S

-- ---- the promise of every public call on an arena ----
-- "1: the arena doesn't pass the check", and a refusal leaves every word as it was; else the answer and all words after are those of the model.
pub record Promise (c : Call) (before after : List ℕ) (r : Answer) : Type 0 where
  pub broken : ¬ Passes before → (r ≡ refused 1) × (after ≡ before)
  pub whole : Passes before → (r ≡ answer_to (decode before) c) × (after ≡ encode (result_of (decode before) c))

-- ---- set-up ----
-- "2: L, M, C or the slice length is wrong": what it is for them to be right.
pub record Room (L M C n : ℕ) : Type 0 where
  pub ranges : Ranges L M C
  pub size : n ≡ header_words + (L + C) * width M

pub record SetUpPromise (L M C : ℕ) (before after : List ℕ) (number : ℕ) : Type 0 where
  pub wrong : ¬ Room L M C (length before) → (number ≡ 2) × (after ≡ before)
  pub right : Room L M C (length before) → (number ≡ 0) × (after ≡ encode (set_up L M C))

-- ---- the check ----
-- "yes or no, for any words": the answer is yes exactly when the arena passes.
pub record CheckPromise (w : List ℕ) (yes : Bool) : Type 0 where
  pub sound : yes ≡ true → Passes w
  pub complete : Passes w → yes ≡ true
