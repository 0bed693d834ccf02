-- "Nodes in a list keep slot and height unless stated": where a node stands, and what is stated of it. Rests on Calls.
use Rattle.std.specs.Prelude.{ℕ, ◌≡◌, ◌⊎◌, List, [], ◌∷◌, drop}
use Rattle.model.specs.Nodes.{Node, node, at, smaller}
use Rattle.model.specs.Arena.{State, list_of, first_free}
use Rattle.model.specs.Lists.{level_from}
use Rattle.model.specs.Calls.{Call, search, read, insert_key, remove_key, remove_index, truncate, clear, split_at, split_key, append_list, middle, level}

-- y is one of these nodes; stands in a list of the model
abbrev pub Has : Node → List Node → Type 0
Has y [] = ⊥
Has y (x ∷ xs) = (y ≡ x) ⊎ Has y xs

pub record Stands (y : Node) (S : State) : Type 0 where
  pub list : ℕ
  pub there : Has y (list_of S list)

-- What is stated of a node y that stands after the call: it was inserted; it was levelled, and stood with its slot and key.
abbrev pub Stated : State → Call → Node → Type 0
Stated S (search a k w) y = ⊥
Stated S (read a i) y = ⊥
Stated S (insert_key a k h) y = y ≡ node (first_free S.free) k h
Stated S (remove_key a k) y = ⊥
Stated S (remove_index a i) y = ⊥
Stated S (truncate a n) y = ⊥
Stated S (clear a) y = ⊥
Stated S (split_at a b i) y = ⊥
Stated S (split_key a b k) y = ⊥
Stated S (append_list a b) y = ⊥
Stated S (middle a) y = ⊥
Stated S (level a) y = (x : Node) × Has x (list_of S a) × (y.slot ≡ x.slot) × (y.key ≡ x.key)

-- What is stated of a node y that stood before the call: it is removed; it is levelled, and stands with its slot and key.
abbrev pub Gone : State → Call → Node → Type 0
Gone S (search a k w) y = ⊥
Gone S (read a i) y = ⊥
Gone S (insert_key a k h) y = ⊥
Gone S (remove_key a k) y = y ≡ at (list_of S a) (smaller k (list_of S a))
Gone S (remove_index a i) y = y ≡ at (list_of S a) i
Gone S (truncate a n) y = Has y (drop n (list_of S a))
Gone S (clear a) y = Has y (list_of S a)
Gone S (split_at a b i) y = ⊥
Gone S (split_key a b k) y = ⊥
Gone S (append_list a b) y = ⊥
Gone S (middle a) y = ⊥
Gone S (level a) y = (x : Node) × Has x (level_from S.levels 1 (list_of S a)) × (x.slot ≡ y.slot) × (x.key ≡ y.key)
