-- Words of an arena's length: their numbers, which slots are nodes', and what stands in a record. Rests on model's Arena, Cells and Passes.
use Rattle.std.specs.Prelude.{ℕ, ◌+◌, ◌*◌, ◌≤◌, ◌<◌, ◌≡◌, List, length}
use Rattle.model.specs.Arena.{header_words, width, count_column, key_column, height_column, next_column, last_column}
use Rattle.model.specs.Cells.{cell_at}
use Rattle.model.specs.Passes.{Ranges}
use Rattle.link_check.specs.declared.Dims.{Dims}

-- The words have the length that d says, and d is within its limits.
pub record Shape (w : List ℕ) (d : Dims) : Type 0 where
  pub size : length w ≡ header_words + (d.lists + d.room) * width d.levels
  pub ranges : Ranges d.lists d.levels d.room

-- s is a node's slot.
pub record NodeSlot (d : Dims) (s : ℕ) : Type 0 where
  pub from : d.lists ≤ s
  pub below : s < d.lists + d.room

-- What stands in the record of slot s, by column.
abbrev pub count_in : List ℕ → Dims → ℕ → ℕ
count_in w d s = cell_at d.levels w s count_column

abbrev pub key_in : List ℕ → Dims → ℕ → ℕ
key_in w d s = cell_at d.levels w s key_column

abbrev pub height_in : List ℕ → Dims → ℕ → ℕ
height_in w d s = cell_at d.levels w s height_column

abbrev pub next_in : List ℕ → Dims → ℕ → ℕ
next_in w d s = cell_at d.levels w s next_column

abbrev pub last_in : List ℕ → Dims → ℕ → ℕ
last_in w d s = cell_at d.levels w s last_column
