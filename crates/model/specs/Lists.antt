-- What each operation does to the nodes of a list ("What each operation leaves"). Rests on Nodes.
use Rattle.std.specs.Prelude.{ℕ, zero, suc, ◌+◌, ◌-◌, ◌/◌, ◌%◌, cond, List, [], ◌∷◌, ◌++◌, leb, eqb, length, take, drop}
use Rattle.model.specs.Nodes.{Node, node, key_at, smaller}

-- "Insert .. stands before the first key not below its own, so before all equal keys, or last if there is no such key."
abbrev pub insert_at : ℕ → Node → List Node → List Node
insert_at p n xs = take p xs ++ n ∷ drop p xs

abbrev pub insert : Node → List Node → List Node
insert n xs = insert_at (smaller n.key xs) n xs

-- "Remove, by key (the first equal) or index".
abbrev pub remove_at : ℕ → List Node → List Node
remove_at p xs = take p xs ++ drop (suc p) xs

-- "The rest are freed in list order, so the last node ends first on the free chain."
abbrev pub freed : List Node → List ℕ → List ℕ
freed [] fs = fs
freed (y ∷ ys) fs = freed ys (y.slot ∷ fs)

-- "Append of b to a: b empty, nothing. If a is empty or its last key is at most b's first, b follows a. Else if b's last is at most a's
-- first, b precedes a. Else b's nodes, first to last, each go before the first key not below theirs in a as it then stands, nodes already
-- moved included, or last if there is none".
abbrev pub last_key : List Node → ℕ
last_key [] = zero
last_key (y ∷ []) = y.key
last_key (y ∷ z ∷ ys) = last_key (z ∷ ys)

abbrev pub merge_in : List Node → List Node → List Node
merge_in [] aa = aa
merge_in (b ∷ bb) aa = merge_in bb (insert b aa)

abbrev pub append : List Node → List Node → List Node
append aa [] = aa
append [] (b ∷ bb) = b ∷ bb
append (a ∷ aa) (b ∷ bb) =
    cond (leb (last_key (a ∷ aa)) b.key) ((a ∷ aa) ++ (b ∷ bb))
    (cond (leb (last_key (b ∷ bb)) a.key) ((b ∷ bb) ++ (a ∷ aa)) (merge_in (b ∷ bb) (a ∷ aa)))

-- Request K2: "The middle call answers twice the median: the sum of the keys at indexes floor((n-1)/2) and floor(n/2), as u64."
abbrev pub middle_of : List Node → ℕ
middle_of xs = key_at xs ((length xs - 1) / 2) + key_at xs (length xs / 2)

-- "Levelling (added): the node of rank k gets as height the number of times 2 divides k, at most M; slots and keys stay."
abbrev pub twos : ℕ → ℕ → ℕ
twos zero k = zero
twos (suc M) k = cond (eqb (k % 2) 0) (suc (twos M (k / 2))) zero

abbrev pub level_from : ℕ → ℕ → List Node → List Node
level_from M k [] = []
level_from M k (y ∷ ys) = node y.slot y.key (twos M k) ∷ level_from M (suc k) ys
