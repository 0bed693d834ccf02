-- What a split asks of words. Rests on model's specs and on arena's Listed.
use Rattle.std.specs.Prelude.{ℕ, ◌≤◌, ◌≡◌, ◌≢◌, List, [], length}
use Rattle.model.specs.Passes.{nodes}
use Rattle.arena.specs.Owners.{Listed}

-- List a can be split at index i into the empty list b.
pub record Splits (w : List ℕ) (m a b i : ℕ) : Type 0 where
  pub from : Listed w m a
  pub to : Listed w m b
  pub apart : a ≢ b
  pub empty : nodes w b ≡ []
  pub within : i ≤ length (nodes w a)
