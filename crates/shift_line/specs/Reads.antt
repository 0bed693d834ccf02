-- A line as it is read byte by byte. Not to be believed: proofs/Parsing shows that a line so read is what `parsed` says. Rests on digits' Digits.
use Rattle.std.specs.Prelude.{ℕ, cond, List, [], ◌∷◌, eqb, Option, Some, None}
use Rattle.shift_line.specs.declared.Part.{Part}
use Rattle.shift_line.specs.declared.Part.TheVariants.{Nothing, ListDigits, Space, KeyDigits, Spoilt}
use Rattle.shift_line.specs.declared.Line.{Line}
use Rattle.shift_line.specs.declared.Reading.{Reading}
use Rattle.digits.specs.Digits.{longer}

abbrev pub blank : Line
blank = record { part = Nothing; list = 0; number = 0 }

abbrev pub spoilt : Line
spoilt = record { part = Spoilt; list = 0; number = 0 }

-- One digit more of the number that is being read.
abbrev pub numbered : Part → ℕ → Option ℕ → Line
numbered part list (Some n) = record { part = part; list = list; number = n }
numbered part list None = spoilt

abbrev pub digited : Part → Line → ℕ → Line
digited part line b = numbered part line.list (longer line.number b)

abbrev pub stepped_in : Part → Line → ℕ → Line
stepped_in Nothing line b = digited ListDigits line b
stepped_in ListDigits line b = cond (eqb b 32) (record { part = Space; list = line.number; number = 0 }) (digited ListDigits line b)
stepped_in Space line b = digited KeyDigits line b
stepped_in KeyDigits line b = digited KeyDigits line b
stepped_in Spoilt line b = spoilt

-- The line with one byte more, and with more bytes.
unfoldable pub stepped : Line → ℕ → Line
stepped line b = stepped_in line.part line b

abbrev pub read : Line → List ℕ → Line
read line [] = line
read line (b ∷ bs) = read (stepped line b) bs

abbrev pub entry_in : Part → Line → Option Reading
entry_in Nothing line = None
entry_in ListDigits line = None
entry_in Space line = None
entry_in KeyDigits line = Some (record { list = line.list; key = line.number })
entry_in Spoilt line = None

-- What the line says, if it ends here.
unfoldable pub entry_of : Line → Option Reading
entry_of line = entry_in line.part line
