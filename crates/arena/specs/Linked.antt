-- A link of a record as words: where it lies, the words of a `Link`, and the words with one stored. Rests on model's columns and cells.
use Rattle.std.specs.Prelude.{ℕ, suc, ◌+◌, ◌≤◌, ◌<◌, List, [], ◌∷◌, length}
use Rattle.model.specs.Arena.{to_column, far_column}
use Rattle.model.specs.Cells.{base_of, put_at}
use Rattle.arena.specs.declared.links.Link.{Link}

-- The link of level l of slot s lies in the slice.
pub record LinkIn (w : List ℕ) (m s l : ℕ) : Type 0 where
  pub small : m ≤ 16
  pub level : l < m
  pub inside : base_of m s + far_column l < length w

abbrev pub words_of : Link → List ℕ
words_of k = k.target.0 ∷ k.distance ∷ []

-- The words with others stored side by side in the record of slot s, from column c on; with the link k stored at level l.
abbrev pub put_row : ℕ → List ℕ → ℕ → ℕ → List ℕ → List ℕ
put_row m w s c [] = w
put_row m w s c (v ∷ vs) = put_row m (put_at m w s c v) s (suc c) vs

unfoldable pub put_link : ℕ → List ℕ → ℕ → ℕ → List ℕ → List ℕ
put_link m w s l k = put_row m w s (to_column l) k
