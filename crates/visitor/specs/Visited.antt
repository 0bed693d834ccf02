-- Where a visitor stands, and what it holds after a walk on from there, by the walks of document 01. Rests on model's specs and on walk's Standing.
use Rattle.std.specs.Prelude.{ℕ, ◌-◌, Bool, true, false, cond, List, leb, length, drop}
use Rattle.std.proofs.Math.Option.{Option, none, some}
use Rattle.model.specs.Nodes.{Node, slot_at}
use Rattle.model.specs.Walks.{Stand, stand, End, ended, is_found, descend, by_next, descend_ranks, next_ranks}
use Rattle.model.specs.Passes.{nodes}
use Rattle.arena.specs.declared.Slot.{Slot}
use Rattle.arena.specs.declared.Rank.{Rank}
use Rattle.walk.specs.Standing.{Standing}
use Rattle.visitor.specs.declared.ord_index.OrdIndexVisitor.{OrdIndexVisitor}
use Rattle.visitor.specs.declared.index.IndexVisitor.{IndexVisitor}

-- The words pass, m is their number of levels and `list` a list of theirs; `current` is its slot at `rank`, and has the links below `level`, at most m.
abbrev StandsIn : List ℕ → ℕ → Slot → ℕ → Slot → Rank → Type 0
StandsIn w m list level current rank = Standing w m list.0 (length (nodes w list.0)) level current.0 rank.0

-- ---- by key ----
-- At the head of a list, in an arena of m levels.
abbrev pub key_head : Slot → ℕ → ℕ → ℕ → OrdIndexVisitor
key_head list m target allowance = record {
  list = list;
  level = m;
  current = list;
  rank = record { 0 = 0 };
  target = target;
  left = allowance;
  found = false;
  over = false;
}

abbrev pub KeyStands : List ℕ → ℕ → OrdIndexVisitor → Type 0
KeyStands w m v = StandsIn w m v.list v.level v.current v.rank

-- The walk by key for target t from rank r on, with the levels below k to come. From the head, with all levels to come, it is `key_walk`.
abbrev pub key_walk_on : ℕ → ℕ → List Node → ℕ → End
key_walk_on k t xs r = let s = descend k t xs (stand r 0) in by_next t s (drop s.rank xs)

-- The visitor has walked all levels and stands at a slot and its rank; `met` says whether the key is there.
abbrev pub key_at : OrdIndexVisitor → Slot → Rank → ℕ → Bool → OrdIndexVisitor
key_at v slot rank left met = record { list = v.list; level = 0; current = slot; rank = rank; target = v.target; left = left; found = met; over = false }

-- Its walk has ended at s: it stands there, with what the tally leaves of the comparisons.
abbrev pub key_end : List ℕ → OrdIndexVisitor → Stand → Bool → OrdIndexVisitor
key_end w v s met = key_at v (record { 0 = slot_at v.list.0 (nodes w v.list.0) s.rank }) (record { 0 = s.rank }) (v.left - s.tally) met

-- The walk's tally is above the comparisons left: the visitor stays where it stood, with none left, and goes on from there once it is given more.
abbrev pub key_over : OrdIndexVisitor → OrdIndexVisitor
key_over v = record {
  list = v.list;
  level = v.level;
  current = v.current;
  rank = v.rank;
  target = v.target;
  left = 0;
  found = false;
  over = true;
}

-- A visitor that has found its key stays as it is. "A tally equal to it is accepted."
abbrev pub key_visit : List ℕ → OrdIndexVisitor → OrdIndexVisitor
key_visit w v =
    let e = key_walk_on v.level v.target (nodes w v.list.0) v.rank.0 in
    cond v.found v (cond (leb (ended e).tally v.left) (key_end w v (ended e) (is_found e)) (key_over v))

-- ---- by rank ----
abbrev pub rank_head : Slot → ℕ → Rank → IndexVisitor
rank_head list m target = record { list = list; level = m; current = list; rank = record { 0 = 0 }; target = target; found = false }

abbrev pub RankStands : List ℕ → ℕ → IndexVisitor → Type 0
RankStands w m v = StandsIn w m v.list v.level v.current v.rank

-- The walk by rank to rank t from rank r on, with the levels below k to come. From the head, with all levels to come, it is `rank_walk`.
abbrev pub rank_walk_on : ℕ → ℕ → List Node → ℕ → Option ℕ
rank_walk_on k t xs r = let p = descend_ranks k t xs r in next_ranks t p (drop p xs)

-- The visitor has walked all levels and stands at rank r; `met` says whether that is its target.
abbrev pub rank_at : List ℕ → IndexVisitor → ℕ → Bool → IndexVisitor
rank_at w v r met = record {
  list = v.list;
  level = 0;
  current = record { 0 = slot_at v.list.0 (nodes w v.list.0) r };
  rank = record { 0 = r };
  target = v.target;
  found = met;
}

-- "Above the length it ends with none": the visitor is then at the last node. So it is where it had passed its target.
abbrev rank_end : List ℕ → IndexVisitor → Option ℕ → IndexVisitor
rank_end w v (some r) = rank_at w v r true
rank_end w v none = rank_at w v (length (nodes w v.list.0)) false

abbrev pub rank_visit : List ℕ → IndexVisitor → IndexVisitor
rank_visit w v = rank_end w v (rank_walk_on v.level v.target.0 (nodes w v.list.0) v.rank.0)
