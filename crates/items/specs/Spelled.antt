-- A name as one number, as `script_line` reads it: five bits a letter, `a` is 1, the first letter highest. Rests on nothing.
use Rattle.std.specs.Prelude.{ℕ, ◌+◌, ◌*◌, ◌%◌}
use Prim.Native.Char.{code}
use Prim.Native.String.{String, [], ◌∷◌}

-- n with these letters behind it.
abbrev pub spelled_from : ℕ → String → ℕ
spelled_from n [] = n
spelled_from n (letter ∷ rest) = spelled_from (n * 32 + code letter % 32) rest

abbrev pub spelled : String → ℕ
spelled name = spelled_from 0 name
