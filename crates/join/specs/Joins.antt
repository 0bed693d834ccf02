-- What a join asks of words, and what one level of it asks. Rests on model's specs and on arena's Listed.
use Rattle.std.specs.Prelude.{ℕ, ◌+◌, ◌<◌, ◌≢◌, List, ◌++◌, length}
use Rattle.model.specs.Nodes.{Sorted}
use Rattle.model.specs.Arena.{far_column}
use Rattle.model.specs.Cells.{cell_at}
use Rattle.model.specs.Passes.{nodes}
use Rattle.arena.specs.Linked.{LinkIn}
use Rattle.arena.specs.Owners.{Listed}

-- List b, which is not empty, can be hung behind list a.
pub record Joins (w : List ℕ) (m a b : ℕ) : Type 0 where
  pub onto : Listed w m a
  pub from : Listed w m b
  pub apart : a ≢ b
  pub some : 0 < length (nodes w b)
  pub sorted : Sorted (nodes w a ++ nodes w b)

-- Slots s and o have a link of level l, and that of o can lie `by` ranks further back.
pub record LevelJoins (w : List ℕ) (m l s o by : ℕ) : Type 0 where
  pub end : LinkIn w m s l
  pub head : LinkIn w m o l
  pub fits : cell_at m w o (far_column l) + by < 4294967296
