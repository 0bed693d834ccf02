-- The arena: the model of its lists and free chain, and the words of a model, by document 01's header and column table. Rests on Nodes and Links.
use Rattle.std.specs.Prelude.{ℕ, zero, suc, ◌+◌, ◌*◌, cond, List, [], ◌∷◌, ◌++◌, ltb, eqb, length, get_or, set, replicate}
use Rattle.model.specs.Nodes.{Node, N}
use Rattle.model.specs.Links.{link_words, link_of, absent_link}

-- M levels, C node slots, L lists of nodes in order, and the free chain's slots in order.
pub record State : Type 0 where
  pub levels : ℕ
  pub room : ℕ
  pub lists : List (List Node)
  pub free : List ℕ

-- "The mark "SKA" .. 4279123"; "word 1 the 16-bit version, 1".
abbrev pub mark : ℕ
mark = 4279123

abbrev pub version : ℕ
version = 1

-- The header's words: mark, version, "then L, M, C, first free slot or N, number of free slots, 0".
abbrev pub mark_word : ℕ
mark_word = 0

abbrev pub version_word : ℕ
version_word = 1

abbrev pub lists_word : ℕ
lists_word = 2

abbrev pub levels_word : ℕ
levels_word = 3

abbrev pub room_word : ℕ
room_word = 4

abbrev pub first_free_word : ℕ
first_free_word = 5

abbrev pub free_word : ℕ
free_word = 6

abbrev pub zero_word : ℕ
zero_word = 7

abbrev pub header_words : ℕ
header_words = 8

-- A record's words, by the column table: length or key, height, next, last node; "4+2l, 5+2l | link l"; "each of 4 + 2M words".
abbrev pub count_column : ℕ
count_column = 0

abbrev pub key_column : ℕ
key_column = 0

abbrev pub height_column : ℕ
height_column = 1

abbrev pub next_column : ℕ
next_column = 2

abbrev pub last_column : ℕ
last_column = 3

abbrev pub to_column : ℕ → ℕ
to_column l = 4 + link_words * l

abbrev pub far_column : ℕ → ℕ
far_column l = 5 + link_words * l

abbrev pub width : ℕ → ℕ
width M = 4 + link_words * M

-- "Slots 0 to L+C-1": how many there are.
abbrev pub slots_of : State → ℕ
slots_of S = length S.lists + S.room

-- List a, with its head in slot a; that list and the free chain replaced.
abbrev pub list_of : State → ℕ → List Node
list_of S a = get_or S.lists a []

abbrev pub put_list : State → ℕ → List Node → List ℕ → State
put_list S a xs fs = record { levels = S.levels; room = S.room; lists = set S.lists a xs; free = fs }

-- ---- the records' columns ----
abbrev pub first_slot : List Node → ℕ
first_slot [] = N
first_slot (y ∷ ys) = y.slot

abbrev pub last_slot : List Node → ℕ
last_slot [] = N
last_slot (y ∷ []) = y.slot
last_slot (y ∷ z ∷ ys) = last_slot (z ∷ ys)

abbrev pub first_free : List ℕ → ℕ
first_free [] = N
first_free (f ∷ fs) = f

-- "4+2l, 5+2l | link l": n links from level l on, of an owner of height ht that `ys` follow; "links at or above a node's height are absent".
abbrev pub node_links : ℕ → ℕ → ℕ → List Node → List ℕ
node_links l zero ht ys = []
node_links l (suc n) ht ys = cond (ltb l ht) (link_of (suc l) ys) absent_link ++ node_links (suc l) n ht ys

-- "head: length, M, first node or N, last node or N, links".
abbrev pub head_words : ℕ → List Node → List ℕ
head_words M xs = length xs ∷ M ∷ first_slot xs ∷ last_slot xs ∷ node_links 0 M M xs

-- "node in a list: key, height 0 to M, next or N, 0, links".
abbrev pub node_words : ℕ → Node → List Node → List ℕ
node_words M n ys = n.key ∷ n.height ∷ first_slot ys ∷ 0 ∷ node_links 0 M n.height ys

-- "free node: 0, N, next free or N, 0, and N, 0 for each link".
abbrev pub absent_links : ℕ → List ℕ
absent_links zero = []
absent_links (suc n) = absent_link ++ absent_links n

abbrev pub free_words : ℕ → List ℕ → List ℕ
free_words M fs = 0 ∷ N ∷ first_free fs ∷ 0 ∷ absent_links M

-- The record of slot s, where it stands in a list, or on the free chain.
abbrev pub in_list : ℕ → ℕ → List Node → List ℕ → List ℕ
in_list M s [] other = other
in_list M s (y ∷ ys) other = cond (eqb y.slot s) (node_words M y ys) (in_list M s ys other)

abbrev pub in_lists : ℕ → ℕ → List (List Node) → List ℕ → List ℕ
in_lists M s [] other = other
in_lists M s (xs ∷ xss) other = in_list M s xs (in_lists M s xss other)

abbrev pub in_free : ℕ → ℕ → List ℕ → List ℕ
in_free M s [] = free_words M []
in_free M s (f ∷ fs) = cond (eqb f s) (free_words M fs) (in_free M s fs)

-- "Slots below L are the heads."
abbrev pub record_of : State → ℕ → List ℕ
record_of S s =
    cond (ltb s (length S.lists)) (head_words S.levels (get_or S.lists s []))
    (in_lists S.levels s S.lists (in_free S.levels s S.free))

-- ---- the words of a model ----
-- "Header: word 0 the mark ..; word 1 the .. version, 1; then L, M, C, first free slot or N, number of free slots, 0."
abbrev pub header : State → List ℕ
header S = mark ∷ version ∷ length S.lists ∷ S.levels ∷ S.room ∷ first_free S.free ∷ length S.free ∷ 0 ∷ []

-- "Then slots 0 to L+C-1".
abbrev pub records : (ℕ → List ℕ) → ℕ → ℕ → List ℕ
records f s zero = []
records f s (suc n) = f s ++ records f (suc s) n

abbrev pub encode : State → List ℕ
encode S = header S ++ records (record_of S) 0 (length S.lists + S.room)

-- "Setting up makes all lists empty and chains the free slots upwards from L."
abbrev pub up_from : ℕ → ℕ → List ℕ
up_from s zero = []
up_from s (suc n) = s ∷ up_from (suc s) n

abbrev pub set_up : ℕ → ℕ → ℕ → State
set_up L M C = record { levels = M; room = C; lists = replicate L []; free = up_from L C }
