-- A truncation on the way: the records of which some are still to be freed, and the words once the links are done. Rests on model's specs and arena's Between.
use Rattle.std.specs.Prelude.{ℕ, ◌≡◌, cond, List, leb, take, drop}
use Rattle.model.specs.Nodes.{Node}
use Rattle.model.specs.Arena.{header_words, width, to_column, State, record_of, slots_of}
use Rattle.model.specs.Calls.{do_truncate}
use Rattle.model.specs.Passes.{decode, nodes, times}
use Rattle.arena.specs.Between.{Between}

-- The record of slot s while the nodes `ys` are still to be freed: theirs are as in S, all others as in T.
unfoldable pub until_freed : State → State → List Node → ℕ → List ℕ
until_freed S T ys s = cond (leb 1 (times s ys)) (record_of S s) (record_of T s)

-- The header and the columns before the links are as before; the links are as truncated, but for the nodes from index n on.
pub record Unlinked (before : List ℕ) (m a n : ℕ) (after : List ℕ) : Type 0 where
  pub front : take header_words after ≡ take header_words before
  pub between : Between m (slots_of (decode before)) (until_freed (decode before) (do_truncate (decode before) a n) (drop n (nodes before a)))
      (record_of (decode before)) (to_column 0) (width m) after
