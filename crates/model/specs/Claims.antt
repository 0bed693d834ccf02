-- What the theorems about walks and calls say, besides the promises. Rests on Walks, Lists, Arena and Cells.
use Rattle.std.specs.Prelude.{ℕ, zero, suc, ◌+◌, ◌-◌, ◌≤◌, ◌<◌, ◌≡◌, cond, List, [], ◌∷◌, ◌++◌, eqb, length, take, drop, get_or}
use Rattle.model.specs.Nodes.{Node, node, at, smaller_keys, Sorted}
use Rattle.model.specs.Walks.{stand, precursors}
use Rattle.model.specs.Lists.{twos}
use Rattle.model.specs.Arena.{State, list_of, encode}
use Rattle.model.specs.Cells.{record_at}

-- ---- the walks: "Consequences to be proved" ----
-- The rank of the precursor of level l: `precursors` has them from the highest level down.
abbrev pub precursor_rank : ℕ → ℕ → List Node → ℕ → ℕ
precursor_rank M t xs l = (get_or (precursors M t xs (stand 0 0)) (M - suc l) (stand 0 0)).rank

-- r is the rank of the last node of height h or more whose key is below t, or 0, the head's
pub record LastBelow (h t : ℕ) (xs : List Node) (r : ℕ) : Type 0 where
  pub within : r ≤ length xs
  pub tall_enough : (i : ℕ) → r ≡ suc i → h ≤ (at xs i).height
  pub below : (i : ℕ) → r ≡ suc i → (at xs i).key < t
  pub none_after : (i : ℕ) → r ≤ i → i < length xs → h ≤ (at xs i).height → t ≤ (at xs i).key

-- found exactly when some key is the target, and then the place is the first such
pub record FoundFirst (t : ℕ) (xs : List Node) (r : ℕ) : Type 0 where
  pub within : r < length xs
  pub equal : (at xs r).key ≡ t
  pub first : (i : ℕ) → i < r → (at xs i).key < t

-- ---- key sequences ----
-- how often key k stands in a list
abbrev pub often : ℕ → List Node → ℕ
often k [] = zero
often k (y ∷ ys) = cond (eqb y.key k) (suc (often k ys)) (often k ys)

-- Append: the keys of both, each as often as before and in order, so that there is one such sequence (Keys, `keys_unique`). "b ends empty."
pub record Appended (S : State) (a b : ℕ) (T : State) : Type 0 where
  pub all_there : (k : ℕ) → often k (list_of T a) ≡ often k (list_of S a) + often k (list_of S b)
  pub in_order : Sorted (list_of T a)
  pub empty : list_of T b ≡ []

-- ---- nodes and records ----
-- "takes the first free slot and stands before the first key not below its own"
pub record Inserted (S : State) (a k h f : ℕ) (fs : List ℕ) (T : State) : Type 0 where
  pub nodes : let xs = list_of S a in let r = smaller_keys k xs in list_of T a ≡ take r xs ++ node f k h ∷ drop r xs
  pub free : T.free ≡ fs

-- the nodes of key k, in order
abbrev pub only : ℕ → List Node → List Node
only k [] = []
only k (y ∷ ys) = cond (eqb y.key k) (y ∷ only k ys) (only k ys)

-- "so equal keys of b end in reverse", before those of a
abbrev pub backwards : List Node → List Node → List Node
backwards [] aa = aa
backwards (b ∷ bb) aa = backwards bb (b ∷ aa)

-- "the node of rank k gets as height the number of times 2 divides k, at most M; slots and keys stay"
pub record LevelledAt (M : ℕ) (old new : Node) (rank : ℕ) : Type 0 where
  pub slot : new.slot ≡ old.slot
  pub key : new.key ≡ old.key
  pub height : new.height ≡ twos M rank

-- The records of list b, its head's and its nodes', are the same in the words of S and of T.
pub record Untouched (S T : State) (b : ℕ) : Type 0 where
  pub head : record_at S.levels (encode T) b ≡ record_at S.levels (encode S) b
  pub node : (aa : List Node) (y : Node) (ys : List Node) → list_of S b ≡ aa ++ y ∷ ys → record_at S.levels (encode T) y.slot ≡ record_at S.levels (encode S) y.slot
