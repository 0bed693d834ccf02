-- Words by slot and column: where word c of the record of slot s stands. Rests on Arena's columns.
use Rattle.std.specs.Prelude.{ℕ, ◌+◌, ◌*◌, ◌≤◌, ◌<◌, List, [], ◌∷◌, length, take, drop, get_or, set}
use Rattle.model.specs.Arena.{header_words, to_column, far_column, width}

-- Where the record of slot s begins: the header, "then slots 0 to L+C-1".
abbrev pub base_of : ℕ → ℕ → ℕ
base_of M s = header_words + s * width M

-- The record of slot s.
abbrev pub record_at : ℕ → List ℕ → ℕ → List ℕ
record_at M w s = take (width M) (drop (base_of M s) w)

-- The word in column c of slot s; the words with v stored there.
unfoldable pub cell_at : ℕ → List ℕ → ℕ → ℕ → ℕ
cell_at M w s c = get_or w (base_of M s + c) 0

unfoldable pub put_at : ℕ → List ℕ → ℕ → ℕ → ℕ → List ℕ
put_at M w s c v = set w (base_of M s + c) v

-- That word lies in the slice.
pub record Cell (w : List ℕ) (m s c : ℕ) : Type 0 where
  pub small : m ≤ 16
  pub column : c < width m
  pub inside : base_of m s + c < length w

-- The words of the link of level l of slot s.
abbrev pub link_at : ℕ → List ℕ → ℕ → ℕ → List ℕ
link_at M w s l = cell_at M w s (to_column l) ∷ cell_at M w s (far_column l) ∷ []
