-- The line that stands after a piece of a script. Rests on Reads.
use Rattle.std.specs.Prelude.{ℕ, cond, List, eqb, fold}
use Rattle.script_line.specs.declared.Line.{Line}
use Rattle.script_line.specs.Reads.{blank, stepped}

-- A newline ends the line, and the next one is still blank.
abbrev pub fed_byte : ℕ → Line → ℕ → Line
fed_byte room line b = cond (eqb b 10) blank (stepped line b room)

abbrev pub fed : ℕ → Line → List ℕ → Line
fed room line bytes = fold (fed_byte room) line bytes
