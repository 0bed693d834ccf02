-- The whole order in one record: a field for each demand and each point of "Holding the answers fast". It speaks of any library whose calls keep the
-- promises of Calls; proofs/Order fills every field by its theorem. Rests on all other files of specs/.
use Rattle.std.specs.Prelude.{ℕ, suc, ◌+◌, ◌-◌, ◌*◌, ◌/◌, ◌^◌, ◌≤◌, ◌<◌, ◌≡◌, ◌≢◌, ◌⊎◌, Bool, List, [], ◌∷◌, ◌++◌, length, take, drop, get_or}
use Rattle.model.specs.Nodes.{Node, at, keys, key_at, smaller_keys}
use Rattle.model.specs.Walks.{ended, rank_walk}
use Rattle.model.specs.Lists.{insert, merge_in}
use Rattle.model.specs.Arena.{State, list_of, first_free, last_slot, encode}
use Rattle.model.specs.Passes.{decode, nodes, Sound, Passes, Clauses}
use Rattle.model.specs.StoredWalks.{key_walk_stored, rank_walk_stored, footing_at}
use Rattle.model.specs.Calls.{Call, search, read, insert_key, remove_key, remove_index, truncate, clear, split_at, split_key, append_list, middle, level}
use Rattle.model.specs.Calls.{names, Unnamed, Answer, refused, beyond, refusal, result_of, Room, Promise, SetUpPromise, CheckPromise}
use Rattle.model.specs.Refusals.{Applies}
use Rattle.model.specs.Slices.{Act, setting_up, checking, calling, Reply, History, Holds, after, replies, held_after, broken, whole}
use Rattle.model.specs.Claims.{precursor_rank, LastBelow, FoundFirst, Appended, Inserted, only, backwards, LevelledAt, Untouched}
use Rattle.model.specs.Stays.{Stands, Stated, Gone}
use Rattle.model.specs.Gaps.{gap, OnlyTruncates, AllOnlyTruncate}
use Rattle.model.specs.Bench.{Table}

-- On words w that pass, the call c answers r and leaves the words u; it is accepted.
pub record On (c : Call) (w u : List ℕ) (r : Answer) : Type 0 where
  pub passes : Passes w
  pub promise : Promise c w u r

pub record Accepted (c : Call) (w u : List ℕ) (r : Answer) : Type 0 where
  pub on : On c w u r
  pub number : r.number ≡ 0

-- Demand 1: "refuses by document 01's numbers, each exactly when stated. A refusal leaves all lent memory unchanged".
pub record Refusing : Type 0 where
  pub row_1 : {c : Call} {w u : List ℕ} {r : Answer} → Promise c w u r → (¬ Passes w → r.number ≡ 1) × (r.number ≡ 1 → ¬ Passes w)
  pub lowest : {c : Call} {w u : List ℕ} {r : Answer} → On c w u r → (n : ℕ) → Applies (decode w) c n → ((m : ℕ) → Applies (decode w) c m → n ≤ m) → r.number ≡ n
  pub none : {c : Call} {w u : List ℕ} {r : Answer} → On c w u r → ((m : ℕ) → Applies (decode w) c m → ⊥) → r.number ≡ 0
  pub stated : {c : Call} {w u : List ℕ} {r : Answer} → On c w u r → r.number ≡ 0 → (m : ℕ) → Applies (decode w) c m → ⊥
  pub zeros : {c : Call} {w u : List ℕ} {r : Answer} → On c w u r → r.number ≢ 0 → r.number ≢ 10 → r ≡ refused r.number
  pub allowance : {a k allowance : ℕ} {w u : List ℕ} {r : Answer} → On (search a k allowance) w u r → r.number ≡ 10 → r ≡ beyond allowance
  pub unchanged : {c : Call} {w u : List ℕ} {r : Answer} → Promise c w u r → r.number ≢ 0 → u ≡ w
  pub set_up_unchanged : {L M C n : ℕ} {w u : List ℕ} → SetUpPromise L M C w u n → n ≢ 0 → u ≡ w

-- Demand 2: "each call does what document 01's sorted sequences do", on the keys of the lists.
pub record Sequences : Type 0 where
  pub found : {a k allowance : ℕ} {w u : List ℕ} {r : Answer} → Accepted (search a k allowance) w u r → r.found ≡ 1 → FoundFirst k (nodes w a) r.place
  pub missing : {a k allowance : ℕ} {w u : List ℕ} {r : Answer} → Accepted (search a k allowance) w u r → r.found ≡ 0 → (i : ℕ) → i < length (nodes w a) → key_at (nodes w a) i ≢ k
  pub place : {a k allowance : ℕ} {w u : List ℕ} {r : Answer} → Accepted (search a k allowance) w u r → r.place ≡ smaller_keys k (nodes w a)
  pub reads : {a i : ℕ} {w u : List ℕ} {r : Answer} → Accepted (read a i) w u r → r.key ≡ get_or (keys (nodes w a)) i 0
  pub inserts : {a k h : ℕ} {w u : List ℕ} {r : Answer} → Accepted (insert_key a k h) w u r
      → let n = smaller_keys k (nodes w a) in keys (nodes u a) ≡ take n (keys (nodes w a)) ++ k ∷ drop n (keys (nodes w a))
  pub removes_key : {a k : ℕ} {w u : List ℕ} {r : Answer} → Accepted (remove_key a k) w u r
      → let n = smaller_keys k (nodes w a) in (r.key ≡ k) × (keys (nodes u a) ≡ take n (keys (nodes w a)) ++ drop (suc n) (keys (nodes w a)))
  pub removes : {a i : ℕ} {w u : List ℕ} {r : Answer} → Accepted (remove_index a i) w u r
      → (r.key ≡ get_or (keys (nodes w a)) i 0) × (keys (nodes u a) ≡ take i (keys (nodes w a)) ++ drop (suc i) (keys (nodes w a)))
  pub truncates : {a n : ℕ} {w u : List ℕ} {r : Answer} → Accepted (truncate a n) w u r → keys (nodes u a) ≡ take n (keys (nodes w a))
  pub clears : {a : ℕ} {w u : List ℕ} {r : Answer} → Accepted (clear a) w u r → keys (nodes u a) ≡ []
  pub splits : {a b i : ℕ} {w u : List ℕ} {r : Answer} → Accepted (split_at a b i) w u r
      → (keys (nodes u a) ≡ take i (keys (nodes w a))) × (keys (nodes u b) ≡ drop i (keys (nodes w a)))
  pub splits_key : {a b k : ℕ} {w u : List ℕ} {r : Answer} → Accepted (split_key a b k) w u r
      → let n = smaller_keys k (nodes w a) in (keys (nodes u a) ≡ take n (keys (nodes w a))) × (keys (nodes u b) ≡ drop n (keys (nodes w a)))
  pub appends : {a b : ℕ} {w u : List ℕ} {r : Answer} → Accepted (append_list a b) w u r → Appended (decode w) a b (decode u)
  pub middles : {a : ℕ} {w u : List ℕ} {r : Answer} → Accepted (middle a) w u r
      → let n = length (nodes w a) in r.key ≡ get_or (keys (nodes w a)) ((n - 1) / 2) 0 + get_or (keys (nodes w a)) (n / 2) 0
  pub levels : {a : ℕ} {w u : List ℕ} {r : Answer} → Accepted (level a) w u r → (i : ℕ) → i < length (nodes w a)
      → LevelledAt (decode w).levels (at (nodes w a) i) (at (nodes u a) i) (suc i)
  pub levels_keys : {a : ℕ} {w u : List ℕ} {r : Answer} → Accepted (level a) w u r → keys (nodes u a) ≡ keys (nodes w a)

-- Demand 2: "and leaves the stated records and links, word for word".
pub record Leaving : Type 0 where
  pub passes : {c : Call} {w u : List ℕ} {r : Answer} → On c w u r → Passes u
  pub set_up_passes : {L M C : ℕ} {w u : List ℕ} → SetUpPromise L M C w u 0 → Passes u
  pub clauses : {w : List ℕ} → (Passes w → Clauses w) × (Clauses w → Passes w)
  pub frame : {c : Call} {w u : List ℕ} {r : Answer} → On c w u r → (b : ℕ) → b < length (decode w).lists → Unnamed b (names c) → Untouched (decode w) (decode u) b
  pub stay : {c : Call} {w u : List ℕ} {r : Answer} → On c w u r → (y : Node) → Stands y (decode u) → Stands y (decode w) ⊎ Stated (decode w) c y
  pub remain : {c : Call} {w u : List ℕ} {r : Answer} → On c w u r → (y : Node) → Stands y (decode w) → Stands y (decode u) ⊎ Gone (decode w) c y

-- "What each operation leaves", of the nodes of a model.
pub record Rules : Type 0 where
  pub inserted : (S : State) → Sound S → (a k h f : ℕ) (fs : List ℕ) → S.free ≡ f ∷ fs → refusal S (insert_key a k h) ≡ 0
      → Inserted S a k h f fs (result_of S (insert_key a k h))
  pub before_equals : (n : Node) (xs : List Node) → only n.key (insert n xs) ≡ n ∷ only n.key xs
  pub truncate_nothing : (S : State) (a n : ℕ) → length (list_of S a) ≤ n → result_of S (truncate a n) ≡ S
  pub truncate_frees : (S : State) (a n : ℕ) → refusal S (truncate a n) ≡ 0 → n < length (list_of S a)
      → first_free (result_of S (truncate a n)).free ≡ last_slot (list_of S a)
  pub split_nothing : (S : State) (a b : ℕ) → result_of S (split_at a b (length (list_of S a))) ≡ S
  pub append_nothing : (S : State) (a b : ℕ) → list_of S b ≡ [] → result_of S (append_list a b) ≡ S
  pub merge_reverses : (k : ℕ) (bb aa : List Node) → only k (merge_in bb aa) ≡ backwards (only k bb) (only k aa)

-- Demand 3: "Bounded search."
pub record Bounding : Type 0 where
  pub walks : {a k allowance : ℕ} {w u : List ℕ} {r : Answer} → Accepted (search a k allowance) w u r → r.tally ≡ (ended (key_walk_stored (decode w).levels w a k)).tally
  pub rank_walks : {w : List ℕ} → Passes w → (a t : ℕ) → a < length (decode w).lists
      → rank_walk_stored (decode w).levels w a t ≡ footing_at a (nodes w a) (rank_walk (decode w).levels t (nodes w a))
  pub precursors : {w : List ℕ} → Passes w → (a k l : ℕ) → l < (decode w).levels → LastBelow (suc l) k (nodes w a) (precursor_rank (decode w).levels k (nodes w a) l)
  pub by_rank : {a k allowance : ℕ} {w u : List ℕ} {r : Answer} → On (search a k allowance) w u r → r.tally ≤ smaller_keys k (nodes w a) + (decode w).levels + 1
  pub by_gap : {a k allowance : ℕ} {w u : List ℕ} {r : Answer} → On (search a k allowance) w u r → r.tally ≤ (gap (decode w).levels (nodes w a) + 1) * ((decode w).levels + 1)
  pub levelled : {w u v : List ℕ} {a k allowance : ℕ} {acts : List Act} {rs : List Reply} {r : Answer} → Passes w → History w (calling (level a) ∷ acts) rs u
      → AllOnlyTruncate a (after (decode w) (calling (level a))) acts → On (search a k allowance) u v r → length (nodes u a) < 2 ^ suc (decode u).levels
      → r.tally ≤ 2 * (decode u).levels + 2

-- Which calls leave list a as it was: those that are refused, that only read, and that name other lists.
pub record Staying : Type 0 where
  pub refusals : (S : State) (a : ℕ) (c : Call) → refusal S c ≢ 0 → OnlyTruncates a S (calling c)
  pub set_ups : (S : State) (a L M C : ℕ) → ¬ Room L M C (length (encode S)) → OnlyTruncates a S (setting_up L M C)
  pub checks : (S : State) (a : ℕ) → OnlyTruncates a S checking
  pub searches : (S : State) (a b k allowance : ℕ) → OnlyTruncates a S (calling (search b k allowance))
  pub reads : (S : State) (a b i : ℕ) → OnlyTruncates a S (calling (read b i))
  pub middles : (S : State) (a b : ℕ) → OnlyTruncates a S (calling (middle b))
  pub others : (S : State) (a : ℕ) (c : Call) → Unnamed a (names c) → OnlyTruncates a S (calling c)

-- "For every input, refusals included, each public function's promise allows one answer and one content of the lent words", also "over any sequence".
pub record Holding : Type 0 where
  pub call : {c : Call} {w u v : List ℕ} {r s : Answer} → Promise c w u r → Promise c w v s → (r ≡ s) × (u ≡ v)
  pub sets_up : {L M C m n : ℕ} {w u v : List ℕ} → SetUpPromise L M C w u m → SetUpPromise L M C w v n → (m ≡ n) × (u ≡ v)
  pub check : {w : List ℕ} {a b : Bool} → CheckPromise w a → CheckPromise w b → a ≡ b
  pub words : {w v : List ℕ} → Passes w → Passes v → decode w ≡ decode v → w ≡ v
  pub sequence : {w u v : List ℕ} {acts : List Act} {rs qs : List Reply} → History w acts rs u → History w acts qs v → (rs ≡ qs) × (u ≡ v)
  pub from_broken : {w u : List ℕ} {acts : List Act} {rs : List Reply} → ¬ Passes w → History w acts rs u
      → (rs ≡ replies (broken w) acts) × Holds u (held_after (broken w) acts)
  pub from_whole : {w u : List ℕ} {acts : List Act} {rs : List Reply} → Passes w → History w acts rs u
      → (rs ≡ replies (whole (decode w)) acts) × Holds u (held_after (whole (decode w)) acts)

pub record Order : Type 0 where
  pub refusing : Refusing
  pub sequences : Sequences
  pub leaving : Leaving
  pub rules : Rules
  pub bounding : Bounding
  pub staying : Staying
  pub holding : Holding
  pub bench : Table
