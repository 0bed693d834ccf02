-- Levelled lists, the largest gap of a list (request K10), and what demand 3 says of searches. Rests on Nodes, Lists, Calls and Slices.
use Rattle.std.specs.Prelude.{ℕ, zero, suc, max, ◌≡◌, cond, List, [], ◌∷◌, leb}
use Rattle.model.specs.Nodes.{Node}
use Rattle.model.specs.Lists.{twos}
use Rattle.model.specs.Walks.{ended, key_walk}
use Rattle.model.specs.Arena.{State, list_of}
use Rattle.model.specs.Calls.{truncate, clear}
use Rattle.model.specs.Slices.{Act, calling, after}

-- The node of rank k has the height that levelling gives it, and so have those after it.
abbrev pub Levelled : ℕ → ℕ → List Node → Type 0
Levelled M k [] = Unit {0}
Levelled M k (y ∷ ys) = (y.height ≡ twos M k) × Levelled M (suc k) ys

-- "For each h from 0 to M-1, the most nodes of height exactly h with no node of greater height between them; and the number of nodes of height
-- M": at h = M no node is higher, so that it is one formula. c nodes have been met since the last higher one.
abbrev pub gap_at : ℕ → ℕ → List Node → ℕ
gap_at h c [] = c
gap_at h c (y ∷ ys) = cond (leb h y.height) (cond (leb y.height h) (gap_at h (suc c) ys) (max c (gap_at h 0 ys))) (gap_at h c ys)

-- "The largest of these".
abbrev pub gap : ℕ → List Node → ℕ
gap zero xs = gap_at zero 0 xs
gap (suc h) xs = max (gap_at (suc h) 0 xs) (gap h xs)

-- ---- demand 3 ----
-- The comparisons of a search for key t in a list of M levels: the tally of the walk.
abbrev pub comparisons : ℕ → ℕ → List Node → ℕ
comparisons M t xs = (ended (key_walk M t xs)).tally

-- "Directly after a levelling of that list, or after truncations of it following one with no other change to it": the call leaves list a as it was,
-- or truncates it ("Clear is truncate to 0").
pub data OnlyTruncates (a : ℕ) (S : State) (act : Act) : Type 0 where
  stays : list_of (after S act) a ≡ list_of S a → OnlyTruncates a S act
  truncates : (n : ℕ) → act ≡ calling (truncate a n) → OnlyTruncates a S act
  clears : act ≡ calling (clear a) → OnlyTruncates a S act

abbrev pub AllOnlyTruncate : ℕ → State → List Act → Type 0
AllOnlyTruncate a S [] = Unit {0}
AllOnlyTruncate a S (act ∷ acts) = OnlyTruncates a S act × AllOnlyTruncate a (after S act) acts
