-- Both walks over the stored words, as document 01 tells them: by the link, distance, next and key columns, from the head's record on.
-- Rests on Cells and Walks; proofs/StoredWalks shows that on words that pass they are the walks over the model.
use Rattle.std.specs.Prelude.{ℕ, zero, suc, ◌+◌, cond, List, ltb, eqb}
use Rattle.std.proofs.Math.Option.{Option, none, some}
use Rattle.model.specs.Nodes.{Node, N, slot_at}
use Rattle.model.specs.Arena.{count_column, key_column, next_column, to_column, far_column}
use Rattle.model.specs.Cells.{cell_at}
use Rattle.model.specs.Walks.{End, found, missing, stand}

-- Where the walk stands: a slot, its rank, and the comparisons that it has made.
pub record Footing : Type 0 where
  pub slot : ℕ
  pub rank : ℕ
  pub tally : ℕ

abbrev pub footing : ℕ → ℕ → ℕ → Footing
footing s r n = record { slot = s; rank = r; tally = n }

-- ---- by key, in an arena of M levels with the words w, for the target t ----
-- "Present link: compare its key with the target, one comparison. Smaller: go there, add the distance to the rank, look at the same level
-- again. Otherwise, or absent: .. go down." At most n steps along level l.
abbrev pub along_stored : ℕ → ℕ → ℕ → List ℕ → ℕ → Footing → Footing
along_stored zero l M w t s = s
along_stored (suc n) l M w t s =
    let to = cell_at M w s.slot (to_column l) in
    cond (eqb to N) s
    (cond (ltb (cell_at M w to key_column) t)
    (along_stored n l M w t (footing to (s.rank + cell_at M w s.slot (far_column l)) (s.tally + 1)))
    (footing s.slot s.rank (s.tally + 1)))

-- "Look at links from the level below downwards."
abbrev pub descend_stored : ℕ → ℕ → ℕ → List ℕ → ℕ → Footing → Footing
descend_stored zero n M w t s = s
descend_stored (suc l) n M w t s = descend_stored l n M w t (along_stored n l M w t s)

-- "Below level 0 follow next: one comparison each; smaller, go on; equal, step on and stop, found; greater or no next, stop."
abbrev pub next_stored : ℕ → ℕ → List ℕ → ℕ → Footing → End
next_stored zero M w t s = missing (stand s.rank s.tally)
next_stored (suc n) M w t s =
    let to = cell_at M w s.slot next_column in
    let key = cell_at M w to key_column in
    cond (eqb to N) (missing (stand s.rank s.tally))
    (cond (ltb key t) (next_stored n M w t (footing to (s.rank + 1) (s.tally + 1)))
    (cond (eqb key t) (found (stand (s.rank + 1) (s.tally + 1))) (missing (stand s.rank (s.tally + 1)))))

-- "Start at the head, rank 0, level M." The head of list a says how many nodes there are: no walk takes more steps in a row.
abbrev pub key_walk_stored : ℕ → List ℕ → ℕ → ℕ → End
key_walk_stored M w a t =
    let n = cell_at M w a count_column in
    next_stored n M w t (descend_stored M n M w t (footing a 0 0))

-- ---- by rank, for the target rank t ----
-- "The target is a rank in fact": along level l while the link stops short of the target.
abbrev pub along_ranks_stored : ℕ → ℕ → ℕ → List ℕ → ℕ → Footing → Footing
along_ranks_stored zero l M w t s = s
along_ranks_stored (suc n) l M w t s =
    let to = cell_at M w s.slot (to_column l) in
    let r = s.rank + cell_at M w s.slot (far_column l) in
    cond (eqb to N) s (cond (ltb r t) (along_ranks_stored n l M w t (footing to r 0)) s)

abbrev pub descend_ranks_stored : ℕ → ℕ → ℕ → List ℕ → ℕ → Footing → Footing
descend_ranks_stored zero n M w t s = s
descend_ranks_stored (suc l) n M w t s = descend_ranks_stored l n M w t (along_ranks_stored n l M w t s)

-- By next up to the target. "Target 0 ends at the head at once .. Above the length it ends with none."
abbrev pub next_ranks_stored : ℕ → ℕ → List ℕ → ℕ → Footing → Option Footing
next_ranks_stored zero M w t s = cond (eqb s.rank t) (some s) none
next_ranks_stored (suc n) M w t s =
    let to = cell_at M w s.slot next_column in
    cond (eqb s.rank t) (some s) (cond (eqb to N) none (next_ranks_stored n M w t (footing to (suc s.rank) 0)))

abbrev pub rank_walk_stored : ℕ → List ℕ → ℕ → ℕ → Option Footing
rank_walk_stored M w a t =
    let n = cell_at M w a count_column in
    next_ranks_stored n M w t (descend_ranks_stored M n M w t (footing a 0 0))

-- The footing at a rank of list a, where there is one.
abbrev pub footing_at : ℕ → List Node → Option ℕ → Option Footing
footing_at a xs none = none
footing_at a xs (some r) = some (footing (slot_at a xs r) r 0)
