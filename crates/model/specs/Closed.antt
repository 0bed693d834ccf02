-- Forms in which the theorems are proved: no promise and no statement of the order cites them, contracts of the inner crates do. proofs/Searching
-- shows that the walk by key is made of the closed forms. Not to be believed. Rests on Nodes, Links and Arena.
use Rattle.std.specs.Prelude.{ℕ, zero, suc, ◌+◌, Bool, false, cond, List, [], ◌∷◌, ◌++◌, leb, ltb, eqb, drop}
use Rattle.model.specs.Nodes.{Node}
use Rattle.model.specs.Links.{further}
use Rattle.model.specs.Arena.{State, list_of, put_list}

-- ---- the walk by key ----
-- From an owner that `ys` follow, at stage h, with target t: how many ranks the walk goes on, and its comparisons.
abbrev pub go : ℕ → ℕ → List Node → ℕ
go h t [] = zero
go h t (y ∷ ys) = cond (leb h y.height) (cond (ltb y.key t) (suc (go h t ys)) zero) (further (go h t ys))

abbrev pub asks : ℕ → ℕ → List Node → ℕ
asks h t [] = zero
asks h t (y ∷ ys) = cond (leb h y.height) (cond (ltb y.key t) (suc (asks h t ys)) 1) (asks h t ys)

-- The same after the stages h, h - 1, .., 0.
abbrev pub ends : ℕ → ℕ → List Node → ℕ
ends zero t ys = go zero t ys
ends (suc h) t ys = let d = go (suc h) t ys in d + ends h t (drop d ys)

abbrev pub tally : ℕ → ℕ → List Node → ℕ
tally zero t ys = asks zero t ys
tally (suc h) t ys = asks (suc h) t ys + tally h t (drop (go (suc h) t ys) ys)

-- The ranks at which the stages h, .., 0 end, where the owner has rank r.
abbrev pub stops : ℕ → ℕ → ℕ → List Node → List ℕ
stops zero t r ys = (r + go zero t ys) ∷ []
stops (suc h) t r ys = let d = go (suc h) t ys in (r + d) ∷ stops h t (r + d) (drop d ys)

-- The first of `ys` has the key t.
abbrev pub key_is : ℕ → List Node → Bool
key_is t [] = false
key_is t (y ∷ ys) = eqb y.key t

-- The rank of the last node of height h or more, 0 if there is none.
abbrev pub last : ℕ → List Node → ℕ
last h [] = zero
last h (y ∷ ys) = cond (leb h y.height) (suc (last h ys)) (further (last h ys))

-- ---- append ----
-- Append's first case, "b follows a" (no call by itself): list b is hung behind list a. "b ends empty."
abbrev pub do_join : State → ℕ → ℕ → State
do_join S a b = put_list (put_list S a (list_of S a ++ list_of S b) S.free) b [] S.free
