-- What `new` and `words` leave: the first words are the new ones, if so many can be lent. Rests on nothing.
use Rattle.std.specs.Prelude.{ℕ, Bool, cond, List, ◌++◌, ◌≡◌, length, drop}

-- words with `front` in place of its first words
abbrev pub over : List ℕ → List ℕ → List ℕ
over front words = front ++ drop (length front) words

-- The lent slice, of `len` words before, is now `front`, if that may be; `r` is its length.
pub record Relent (may : Bool) (front : List ℕ) (len : ℕ) (before after : List ℕ) (r : ℕ) : Type 0 where
  pub size : r ≡ cond may (length front) len
  pub words : after ≡ cond may (over front before) before
