-- Words that are between two models: a change is made column by column. Rests on model's specs.
use Rattle.std.specs.Prelude.{ℕ, ◌+◌, ◌*◌, ◌≤◌, ◌<◌, ◌≡◌, List, length, get_or}
use Rattle.model.specs.Arena.{header_words, width}
use Rattle.model.specs.Cells.{cell_at}

-- Of n records, the columns from lo up to hi are as f says, the others as g says.
pub record Between (M n : ℕ) (f g : ℕ → List ℕ) (lo hi : ℕ) (w : List ℕ) : Type 0 where
  pub size : length w ≡ header_words + n * width M
  pub new : (s c : ℕ) → s < n → c < width M → lo ≤ c → c < hi → cell_at M w s c ≡ get_or (f s) c 0
  pub below : (s c : ℕ) → s < n → c < width M → c < lo → cell_at M w s c ≡ get_or (g s) c 0
  pub above : (s c : ℕ) → s < n → c < width M → hi ≤ c → cell_at M w s c ≡ get_or (g s) c 0
