-- Both walks, as document 01 tells them. Rests on Nodes and Links.
use Rattle.std.specs.Prelude.{ℕ, zero, suc, ◌+◌, ◌-◌, Bool, true, false, cond, List, [], ◌∷◌, ltb, eqb, length, drop}
use Rattle.std.proofs.Math.Option.{Option, none, some}
use Rattle.model.specs.Nodes.{Node, key_at}
use Rattle.model.specs.Links.{distance}

-- ---- by key ----

-- Where the walk stands: a rank, and the comparisons that it has made. "The tally is the number of comparisons, nothing else counts."
pub record Stand : Type 0 where
  pub rank : ℕ
  pub tally : ℕ

abbrev pub stand : ℕ → ℕ → Stand
stand r n = record { rank = r; tally = n }

-- "Present link: compare its key with the target, one comparison. Smaller: go there, add the distance to the rank, look at the same level
-- again. Otherwise, or absent: this node and its rank are the precursor of that level; go down."
-- The walk along level l, of at most n steps: each goes at least one rank on, so that the list's length is always enough.
abbrev pub along : ℕ → ℕ → ℕ → List Node → Stand → Stand
along zero l t xs s = s
along (suc n) l t xs s =
    let d = distance (suc l) (drop s.rank xs) in
    cond (eqb d 0) s
    (cond (ltb (key_at xs (s.rank + d - 1)) t)
    (along n l t xs (stand (s.rank + d) (s.tally + 1)))
    (stand s.rank (s.tally + 1)))

-- "Start at the head, rank 0, level M. Look at links from the level below downwards."
abbrev pub descend : ℕ → ℕ → List Node → Stand → Stand
descend zero t xs s = s
descend (suc l) t xs s = descend l t xs (along (length xs) l t xs s)

-- The precursors, from the highest level down.
abbrev pub precursors : ℕ → ℕ → List Node → Stand → List Stand
precursors zero t xs s = []
precursors (suc l) t xs s = let p = along (length xs) l t xs s in p ∷ precursors l t xs p

pub data End : Type 0 where
  found : Stand → End
  missing : Stand → End

-- "Below level 0 follow next: one comparison each; smaller, go on; equal, step on and stop, found; greater or no next, stop."
abbrev pub by_next : ℕ → Stand → List Node → End
by_next t s [] = missing s
by_next t s (y ∷ ys) =
    cond (ltb y.key t) (by_next t (stand (s.rank + 1) (s.tally + 1)) ys)
    (cond (eqb y.key t) (found (stand (s.rank + 1) (s.tally + 1))) (missing (stand s.rank (s.tally + 1))))

abbrev pub key_walk : ℕ → ℕ → List Node → End
key_walk M t xs = let s = descend M t xs (stand 0 0) in by_next t s (drop s.rank xs)

abbrev pub ended : End → Stand
ended (found s) = s
ended (missing s) = s

abbrev pub is_found : End → Bool
is_found (found s) = true
is_found (missing s) = false

-- "The public search answers found with index r, or missing with place r": an index is a rank less one.
abbrev pub place_of : End → ℕ
place_of (found s) = s.rank - 1
place_of (missing s) = s.rank

-- ---- by rank ----

-- "The target is a rank in fact": along level l while the link stops short of the target.
abbrev pub along_ranks : ℕ → ℕ → ℕ → List Node → ℕ → ℕ
along_ranks zero l t xs r = r
along_ranks (suc n) l t xs r =
    let d = distance (suc l) (drop r xs) in
    cond (eqb d 0) r (cond (ltb (r + d) t) (along_ranks n l t xs (r + d)) r)

abbrev pub descend_ranks : ℕ → ℕ → List Node → ℕ → ℕ
descend_ranks zero t xs r = r
descend_ranks (suc l) t xs r = descend_ranks l t xs (along_ranks (length xs) l t xs r)

abbrev pub rank_precursors : ℕ → ℕ → List Node → ℕ → List ℕ
rank_precursors zero t xs r = []
rank_precursors (suc l) t xs r = let p = along_ranks (length xs) l t xs r in p ∷ rank_precursors l t xs p

-- By next up to the target. "Target 0 ends at the head at once .. Above the length it ends with none."
abbrev pub next_ranks : ℕ → ℕ → List Node → Option ℕ
next_ranks t r [] = cond (eqb r t) (some r) none
next_ranks t r (y ∷ ys) = cond (eqb r t) (some r) (next_ranks t (suc r) ys)

abbrev pub rank_walk : ℕ → ℕ → List Node → Option ℕ
rank_walk M t xs = let r = descend_ranks M t xs 0 in next_ranks t r (drop r xs)
