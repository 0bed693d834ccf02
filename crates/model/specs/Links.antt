-- The links of an owner, as a function of the nodes that follow it. Rests on Nodes.
use Rattle.std.specs.Prelude.{ℕ, zero, suc, cond, List, [], ◌∷◌, leb}
use Rattle.model.specs.Nodes.{Node, N}

-- "The link at level l of a head, or of a node of height above l, goes to the next node of height above l with the difference of ranks as
-- distance, or is absent if there is none"; "an absent one is N, 0."
-- Stage h runs through the nodes of height h and more. So level l is stage l + 1, and stage 0 runs through all nodes, as next does.

-- One further, where there is something: an absent link stays absent.
abbrev pub further : ℕ → ℕ
further zero = zero
further (suc d) = suc (suc d)

-- How far the link of stage h goes, of an owner that the nodes `ys` follow; 0 where it is absent.
abbrev pub distance : ℕ → List Node → ℕ
distance h [] = zero
distance h (y ∷ ys) = cond (leb h y.height) 1 (further (distance h ys))

-- The slot that it goes to; N where it is absent.
abbrev pub target : ℕ → List Node → ℕ
target h [] = N
target h (y ∷ ys) = cond (leb h y.height) y.slot (target h ys)

-- "A link is target slot and distance; an absent one is N, 0": how many words it has, the words of the link of stage h, and of an absent one.
abbrev pub link_words : ℕ
link_words = 2

abbrev pub link_of : ℕ → List Node → List ℕ
link_of h ys = target h ys ∷ distance h ys ∷ []

abbrev pub absent_link : List ℕ
absent_link = N ∷ 0 ∷ []
