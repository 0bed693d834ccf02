-- What holds of each number of a range: the form of the question that a loop of tests answers. Rests on nothing.
use Rattle.std.specs.Prelude.{ℕ, ◌≤◌, ◌<◌}

-- P of each number from lo on, below hi.
unfoldable pub EachFrom : ℕ → ℕ → (ℕ → Type 0) → Type 0
EachFrom lo hi P = (k : ℕ) → lo ≤ k → k < hi → P k
