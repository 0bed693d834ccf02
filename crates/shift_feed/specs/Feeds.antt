-- What the calls that read a shift's text promise, from any words and any desk. Rests on Shifts and shift_line's Reads.
use Rattle.std.specs.Prelude.{ℕ, ◌≡◌, cond, List, [], ◌∷◌, leb, eqb}
use Rattle.model.specs.Slices.{Held, Holds}
use Rattle.shift_line.specs.declared.Line.{Line}
use Rattle.shift_line.specs.declared.Part.{Part}
use Rattle.shift_line.specs.declared.Part.TheVariants.{Nothing, ListDigits, Space, KeyDigits, Spoilt}
use Rattle.shift_line.specs.Reads.{blank, stepped, entry_of}
use Rattle.shift_feed.specs.declared.Desk.{Desk}
use Rattle.shift_feed.specs.Shifts.{Shift, taken}

-- Between two bytes: the shift of the lines that have ended, and what was read of the next.
pub record Midway : Type 0 where
  pub shift : Shift
  pub line : Line

-- The line ends.
abbrev pub end_line : Midway → Midway
end_line s = record { shift = taken s.shift (entry_of s.line); line = blank }

abbrev pub fed_byte : Midway → ℕ → Midway
fed_byte s b = cond (eqb b 10) (end_line s) (record { shift = s.shift; line = stepped s.line b })

abbrev pub fed : Midway → List ℕ → Midway
fed s [] = s
fed s (b ∷ bs) = fed (fed_byte s b) bs

-- The text ends: a line that was begun ends with it.
abbrev pub ended_in : Part → Midway → Midway
ended_in Nothing s = s
ended_in ListDigits s = end_line s
ended_in Space s = end_line s
ended_in KeyDigits s = end_line s
ended_in Spoilt s = end_line s

abbrev pub ended : Midway → Midway
ended s = ended_in s.line.part s

-- A desk before the first byte.
abbrev pub empty : Desk
empty = record { line = blank; skipped = 0 }

-- A desk counts in a u64: up to 18446744073709551615 lines, and no further.
abbrev pub capped : ℕ → ℕ
capped n = cond (leb n 18446744073709551615) n 18446744073709551615

abbrev pub midway : Held → Desk → Midway
midway h desk = record { shift = record { held = h; skipped = desk.skipped }; line = desk.line }

abbrev pub desk_of : Midway → Desk
desk_of s = record { line = s.line; skipped = capped s.shift.skipped }

-- On words that hold h, the call answers r and leaves words that hold what the definitions say.
pub record Goes (to : Midway → Midway) (desk : Desk) (before after : List ℕ) (r : Desk) : Type 0 where
  pub goes : (h : Held) → Holds before h → Holds after (to (midway h desk)).shift.held × (r ≡ desk_of (to (midway h desk)))
