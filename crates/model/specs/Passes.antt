-- When an arena passes the check: the model that words hold, which models are sound, and document 01's clauses. Rests on Arena and Cells.
use Rattle.std.specs.Prelude.{ℕ, zero, suc, ◌+◌, ◌*◌, ◌≤◌, ◌<◌, ◌≡◌, cond, List, [], ◌∷◌, ◌++◌, eqb, length, get_or}
use Rattle.model.specs.Nodes.{Node, node, N, Sorted, Low}
use Rattle.model.specs.Links.{link_of, absent_link}
use Rattle.model.specs.Arena.{State, mark, version, mark_word, version_word, lists_word, levels_word, room_word, first_free_word, free_word, zero_word}
use Rattle.model.specs.Arena.{header_words, count_column, key_column, height_column, next_column, last_column, width, last_slot, encode, list_of}
use Rattle.model.specs.Cells.{record_at, cell_at, link_at}

-- ---- the model that words hold ----
-- n nodes from slot s on, by next; n free slots.
abbrev pub chain : ℕ → List ℕ → ℕ → ℕ → List Node
chain M w zero s = []
chain M w (suc n) s = let r = record_at M w s in node s (get_or r key_column 0) (get_or r height_column 0) ∷ chain M w n (get_or r next_column 0)

abbrev pub free_chain : ℕ → List ℕ → ℕ → ℕ → List ℕ
free_chain M w zero s = []
free_chain M w (suc n) s = s ∷ free_chain M w n (get_or (record_at M w s) next_column 0)

-- The lists of n heads from slot a on.
abbrev pub lists_from : ℕ → List ℕ → ℕ → ℕ → List (List Node)
lists_from M w a zero = []
lists_from M w a (suc n) = let r = record_at M w a in chain M w (get_or r count_column 0) (get_or r next_column 0) ∷ lists_from M w (suc a) n

abbrev pub decode : List ℕ → State
decode w = record {
  levels = get_or w levels_word 0;
  room = get_or w room_word 0;
  lists = lists_from (get_or w levels_word 0) w 0 (get_or w lists_word 0);
  free = free_chain (get_or w levels_word 0) w (get_or w free_word 0) (get_or w first_free_word 0);
}

abbrev pub nodes : List ℕ → ℕ → List Node
nodes w a = list_of (decode w) a

-- ---- sound models ----
-- How often a slot stands in a list, in all lists, on the free chain.
abbrev pub times : ℕ → List Node → ℕ
times s [] = zero
times s (y ∷ ys) = cond (eqb y.slot s) (suc (times s ys)) (times s ys)

abbrev pub times_all : ℕ → List (List Node) → ℕ
times_all s [] = zero
times_all s (xs ∷ xss) = times s xs + times_all s xss

abbrev pub times_free : ℕ → List ℕ → ℕ
times_free s [] = zero
times_free s (f ∷ fs) = cond (eqb f s) (suc (times_free s fs)) (times_free s fs)

abbrev pub Each : (List Node → Type 0) → List (List Node) → Type 0
Each P [] = Unit {0}
Each P (xs ∷ xss) = P xs × Each P xss

-- "Keys never fall"; heights are at most M; "each node slot is in exactly one list or on the free chain", and no other slot is.
pub record Sound (S : State) : Type 0 where
  pub sorted : Each Sorted S.lists
  pub low : Each (Low S.levels) S.lists
  pub once : (s : ℕ) → length S.lists ≤ s → s < length S.lists + S.room → times_all s S.lists + times_free s S.free ≡ 1
  pub no_head : (s : ℕ) → s < length S.lists → times_all s S.lists + times_free s S.free ≡ 0
  pub no_more : (s : ℕ) → length S.lists + S.room ≤ s → times_all s S.lists + times_free s S.free ≡ 0

-- "L lists (1 to 16), M levels (1 to 16), C nodes (1 to 65535)."
pub record Ranges (L M C : ℕ) : Type 0 where
  pub lists_least : 1 ≤ L
  pub lists_most : L ≤ 16
  pub levels_least : 1 ≤ M
  pub levels_most : M ≤ 16
  pub room_least : 1 ≤ C
  pub room_most : C ≤ 65535

abbrev pub Sizes : State → Type 0
Sizes S = Ranges (length S.lists) S.levels S.room

-- The words are those of the model that they hold, and it is sound. This is document 01's list of clauses: `Clauses`, below, says them in its
-- words and order, and proofs/Clauses shows that an arena passes exactly when they hold.
pub record Passes (w : List ℕ) : Type 0 where
  pub words : w ≡ encode (decode w)
  pub sound : Sound (decode w)
  pub sizes : Sizes (decode w)

-- ---- the clauses ----
-- The slot that n steps by word 2 lead to from slot s.
abbrev pub after : ℕ → List ℕ → ℕ → ℕ → ℕ
after M w zero s = s
after M w (suc n) s = after M w n (cell_at M w s next_column)

-- n steps by word 2 from slot s go through node slots only, and end at N.
pub record Chained (L M C : ℕ) (w : List ℕ) (n s : ℕ) : Type 0 where
  pub through : (j : ℕ) → j < n → (L ≤ after M w j s) × (after M w j s < L + C)
  pub ends : after M w n s ≡ N

-- The link of level l of slot s is that of an owner that `ys` follow; is absent.
pub record LinkIs (M : ℕ) (w : List ℕ) (s l : ℕ) (ys : List Node) : Type 0 where
  pub link : link_at M w s l ≡ link_of (suc l) ys

pub record Absent (M : ℕ) (w : List ℕ) (s l : ℕ) : Type 0 where
  pub link : link_at M w s l ≡ absent_link

pub record ClausesOf (L M C : ℕ) (w : List ℕ) : Type 0 where
  -- "length and header are as above"
  pub size : length w ≡ header_words + (L + C) * width M
  pub is_mark : get_or w mark_word 0 ≡ mark
  pub is_version : get_or w version_word 0 ≡ version
  pub ranges : Ranges L M C
  pub last_word : get_or w zero_word 0 ≡ 0
  -- "each chain from a head takes exactly its length in steps, through node slots only, and ends at N"
  pub chains : (a : ℕ) → a < L → Chained L M C w (cell_at M w a count_column) (cell_at M w a next_column)
  -- "the last node is the one named (N for an empty list)"
  pub lasts : (a : ℕ) → a < L → cell_at M w a last_column ≡ last_slot (nodes w a)
  -- "keys never fall"
  pub sorted : (a : ℕ) → a < L → Sorted (nodes w a)
  -- "each node slot is in exactly one list or on the free chain"
  pub once : (s : ℕ) → L ≤ s → s < L + C → times_all s (decode w).lists + times_free s (decode w).free ≡ 1
  -- "the free chain has exactly the stated number of node slots and ends at N"
  pub frees : Chained L M C w (get_or w free_word 0) (get_or w first_free_word 0)
  -- "every record has its column's form": heads, nodes in a list, free nodes
  pub head_height : (a : ℕ) → a < L → cell_at M w a height_column ≡ M
  pub node_height : (a : ℕ) → a < L → Low M (nodes w a)
  pub node_zero : (a : ℕ) (aa : List Node) (y : Node) (ys : List Node) → a < L → nodes w a ≡ aa ++ y ∷ ys → cell_at M w y.slot last_column ≡ 0
  pub free_form : (gs : List ℕ) (f : ℕ) (fs : List ℕ) → (decode w).free ≡ gs ++ f ∷ fs
      → (cell_at M w f key_column ≡ 0) × (cell_at M w f height_column ≡ N) × (cell_at M w f last_column ≡ 0)
  pub free_links : (gs : List ℕ) (f : ℕ) (fs : List ℕ) → (decode w).free ≡ gs ++ f ∷ fs → (l : ℕ) → l < M → Absent M w f l
  -- "the link at level l of a head, or of a node of height above l, goes to the next node of height above l with the difference of ranks as
  -- distance, or is absent if there is none"
  pub head_links : (a : ℕ) → a < L → (l : ℕ) → l < M → LinkIs M w a l (nodes w a)
  pub links_of_nodes : (a : ℕ) (aa : List Node) (y : Node) (ys : List Node) → a < L → nodes w a ≡ aa ++ y ∷ ys → (l : ℕ) → l < M → l < y.height → LinkIs M w y.slot l ys
  -- "links at or above a node's height are absent"
  pub node_absent : (a : ℕ) (aa : List Node) (y : Node) (ys : List Node) → a < L → nodes w a ≡ aa ++ y ∷ ys → (l : ℕ) → l < M → y.height ≤ l → Absent M w y.slot l

-- L, M and C are the header's.
abbrev pub Clauses : List ℕ → Type 0
Clauses w = ClausesOf (get_or w lists_word 0) (get_or w levels_word 0) (get_or w room_word 0) w
