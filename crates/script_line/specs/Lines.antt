-- A line's numbers lie in the slice that holds them. Rests on nothing.
use Rattle.std.specs.Prelude.{ℕ, ◌≤◌, List, length}
use Rattle.script_line.specs.declared.Line.{Line}

pub record Within (line : Line) (numbers : List ℕ) : Type 0 where
  pub count : line.count ≤ length numbers
