-- Where an element of a picture stands. Rests on nothing.
use Rattle.std.specs.Prelude.{ℕ, ◌≤◌}

-- Column and row are those of a block: ten nodes behind the head, and three rows below sixteen levels.
pub record Placed (c r : ℕ) : Type 0 where
  pub column : c ≤ 10
  pub row : r ≤ 18
