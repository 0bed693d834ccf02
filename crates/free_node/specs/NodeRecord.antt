-- A record with a node's form, and the same record freed. Rests on model's specs and on arena's RecordIn.
use Rattle.std.specs.Prelude.{ℕ, ◌≤◌, ◌<◌, ◌≡◌, ◌≢◌, List, [], ◌∷◌, take, get_or}
use Rattle.model.specs.Arena.{header_words, width, height_column, last_column, free_words}
use Rattle.model.specs.Cells.{cell_at}
use Rattle.model.specs.Passes.{Absent}
use Rattle.arena.specs.RecordIn.{RecordIn}

-- The record of slot s lies in the slice and has a node's form.
pub record HoldsNode (w : List ℕ) (m s : ℕ) : Type 0 where
  pub lies : RecordIn w m s
  pub low : cell_at m w s height_column ≤ m
  pub zero : cell_at m w s last_column ≡ 0
  pub absent : (l : ℕ) → cell_at m w s height_column ≤ l → l < m → Absent m w s l

-- It has taken the free column's form, with `next` as next free; no other word has changed.
pub record NodeFreed (m s next : ℕ) (w u : List ℕ) : Type 0 where
  pub front : take header_words u ≡ take header_words w
  pub others : (z c : ℕ) → z ≢ s → c < width m → cell_at m u z c ≡ cell_at m w z c
  pub form : (c : ℕ) → c < width m → cell_at m u s c ≡ get_or (free_words m (next ∷ [])) c 0
