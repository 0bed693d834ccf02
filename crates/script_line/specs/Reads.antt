-- What the bytes of a line read as (docs/CALLS.md): "Words are separated by single spaces", "Numbers are decimal, 0 to 4294967295", "A line that
-- begins with `#` is a comment." Each byte is told by its ASCII code. Rests on Lines
-- and digits' Digits.
use Rattle.std.specs.Prelude.{ℕ, ◌+◌, ◌*◌, ◌%◌, Bool, false, cond, ◌≡◌, List, ltb, leb, eqb, length, set, Option, Some, None}
use Rattle.digits.specs.Digits.{longer}
use Rattle.script_line.specs.declared.Reading.{Reading}
use Rattle.script_line.specs.declared.Reading.TheVariants.{Nothing, Name, Gap, Digits, Comment, Spoilt}
use Rattle.script_line.specs.declared.Line.{Line}
use Rattle.script_line.specs.Lines.{Within}

-- A byte from `a` to `z`.
unfoldable pub is_letter : ℕ → Bool
is_letter b = cond (ltb b 97) false (leb b 122)

abbrev pub turned : Reading → Line → Line
turned reading line = record { reading = reading; name = line.name; number = line.number; count = line.count }

-- A line before its first byte.
abbrev pub blank : Line
blank = record { reading = Nothing; name = 0; number = 0; count = 0 }

-- One letter more of a name: five bits, `a` is 1. Below 32 to the 11th a name has eleven letters at most.
unfoldable pub lettered : Line → ℕ → Line
lettered line b =
    cond (is_letter b)
    (cond (ltb line.name 36028797018963968)
    (record { reading = Name; name = line.name * 32 + b % 32; number = 0; count = line.count })
    (turned Spoilt line))
    (turned Spoilt line)

-- One digit more of a number.
abbrev pub number_read : Line → Option ℕ → Line
number_read line (Some n) = record { reading = Digits; name = line.name; number = n; count = line.count }
number_read line None = turned Spoilt line

abbrev pub digited : Line → ℕ → Line
digited line b = number_read line (longer line.number b)

-- A number is done: one of `room` numbers at most.
unfoldable pub numbered : Line → ℕ → Reading → Line
numbered line room then =
    cond (ltb line.count room)
    (record { reading = then; name = line.name; number = 0; count = line.count + 1 })
    (turned Spoilt line)

abbrev pub stepped_in : Reading → Line → ℕ → ℕ → Line
stepped_in Nothing line b room = cond (eqb b 35) (turned Comment line) (lettered line b)
stepped_in Name line b room = cond (eqb b 32) (turned Gap line) (lettered line b)
stepped_in Gap line b room = digited line b
stepped_in Digits line b room = cond (eqb b 32) (numbered line room Gap) (digited line b)
stepped_in Comment line b room = line
stepped_in Spoilt line b room = line

-- The line with one byte more, if the slice for the numbers has `room` words.
unfoldable pub stepped : Line → ℕ → ℕ → Line
stepped line b room = stepped_in line.reading line b room

-- The numbers with one byte more: a space after digits puts the number that was read.
abbrev pub kept_in : Reading → Line → ℕ → List ℕ → List ℕ
kept_in Nothing line b numbers = numbers
kept_in Name line b numbers = numbers
kept_in Gap line b numbers = numbers
kept_in Digits line b numbers = cond (eqb b 32) (set numbers line.count line.number) numbers
kept_in Comment line b numbers = numbers
kept_in Spoilt line b numbers = numbers

unfoldable pub kept : Line → ℕ → List ℕ → List ℕ
kept line b numbers = kept_in line.reading line b numbers

abbrev pub finished_in : Reading → Line → ℕ → Line
finished_in Nothing line room = turned Spoilt line
finished_in Name line room = line
finished_in Gap line room = turned Spoilt line
finished_in Digits line room = numbered line room Name
finished_in Comment line room = line
finished_in Spoilt line room = line

-- The line at its end: `Name` if it has the form of an item.
unfoldable pub finished : Line → ℕ → Line
finished line room = finished_in line.reading line room

-- The numbers at the line's end: the end is as a space.
abbrev pub kept_all : Line → List ℕ → List ℕ
kept_all line numbers = kept line 32 numbers

-- `step` answers r and leaves `after`.
pub record Stepped (line : Line) (b : ℕ) (before : List ℕ) (r : Line) (after : List ℕ) : Type 0 where
  pub within : Within r after
  pub reads : r ≡ stepped line b (length before)
  pub holds : after ≡ kept line b before

-- `finish` answers r and leaves `after`.
pub record Finished (line : Line) (before : List ℕ) (r : Line) (after : List ℕ) : Type 0 where
  pub within : Within r after
  pub reads : r ≡ finished line (length before)
  pub holds : after ≡ kept_all line before
