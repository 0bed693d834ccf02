-- When a whole record lies in the slice. Rests on model's cells.
use Rattle.std.specs.Prelude.{ℕ, ◌+◌, ◌≤◌, List, length}
use Rattle.model.specs.Arena.{width}
use Rattle.model.specs.Cells.{base_of}

-- The record of slot s lies in the slice.
pub record RecordIn (w : List ℕ) (m s : ℕ) : Type 0 where
  pub small : m ≤ 16
  pub inside : base_of m s + width m ≤ length w
