-- Nodes, and what it is for a list of nodes to be in order. Rests on nothing.
use Rattle.std.specs.Prelude.{ℕ, zero, suc, ◌≤◌, ◌<◌, cond, List, [], ◌∷◌, map, ltb, get_or}

-- "N means 4294967295 (no slot)."
abbrev pub N : ℕ
N = 4294967295

-- A node of a list: the slot it stands in, its key and its height.
pub record Node : Type 0 where
  pub slot : ℕ
  pub key : ℕ
  pub height : ℕ

abbrev pub node : ℕ → ℕ → ℕ → Node
node s k h = record { slot = s; key = k; height = h }

-- The node at an index, its key, and the keys of a list.
abbrev pub at : List Node → ℕ → Node
at xs i = get_or xs i (node N 0 0)

abbrev pub key_at : List Node → ℕ → ℕ
key_at xs i = (get_or xs i (node N 0 0)).key

abbrev pub keys : List Node → List ℕ
keys xs = map (λ y. y.key) xs

-- "Head has rank 0 and the first data node rank 1; a key's index is its rank less one": the slot at a rank of list a, whose head is slot a.
abbrev pub slot_at : ℕ → List Node → ℕ → ℕ
slot_at a xs zero = a
slot_at a xs (suc i) = (get_or xs i (node N 0 0)).slot

-- The height of the owner at a rank: a head has links at all M levels.
abbrev pub height_at : ℕ → List Node → ℕ → ℕ
height_at M xs zero = M
height_at M xs (suc i) = (get_or xs i (node N 0 0)).height

-- Every key is below t; every key is t or more; "keys never fall".
abbrev pub Below : ℕ → List Node → Type 0
Below t [] = Unit {0}
Below t (y ∷ ys) = (y.key < t) × Below t ys

abbrev pub Above : ℕ → List Node → Type 0
Above t [] = Unit {0}
Above t (y ∷ ys) = (t ≤ y.key) × Above t ys

abbrev pub Sorted : List Node → Type 0
Sorted [] = Unit {0}
Sorted (y ∷ ys) = Above y.key ys × Sorted ys

-- "height 0 to M": no node is higher than h.
abbrev pub Low : ℕ → List Node → Type 0
Low h [] = Unit {0}
Low h (y ∷ ys) = (y.height ≤ h) × Low h ys

-- How many nodes stand before the first whose key is not below t, which is the first place where a key t may stand.
-- On a list whose keys never fall it is `smaller_keys`, the number of smaller keys (proofs/Searching, `smaller-all`).
abbrev pub smaller : ℕ → List Node → ℕ
smaller t [] = zero
smaller t (y ∷ ys) = cond (ltb y.key t) (suc (smaller t ys)) zero

abbrev pub smaller_keys : ℕ → List Node → ℕ
smaller_keys t [] = zero
smaller_keys t (y ∷ ys) = cond (ltb y.key t) (suc (smaller_keys t ys)) (smaller_keys t ys)
