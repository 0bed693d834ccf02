-- Request K1: what the lines of a shift's text do, over the model's own insert. Rests on shift_line's Lines and model's Slices.
use Rattle.std.specs.Prelude.{ℕ, suc, Bool, cond, List, [], ◌∷◌, eqb, Option, Some, None}
use Rattle.model.specs.Arena.{set_up}
use Rattle.model.specs.Calls.{insert_key}
use Rattle.model.specs.Slices.{Act, calling, Reply, number, verdict, answered, Held, whole, reply, held}
use Rattle.shift_line.specs.declared.Reading.{Reading}
use Rattle.shift_line.specs.Lines.{lines_of, parsed}

-- What the slice holds, and how many lines were skipped.
pub record Shift : Type 0 where
  pub held : Held
  pub skipped : ℕ

-- "height 0".
abbrev pub inserting : ℕ → ℕ → Act
inserting l k = calling (insert_key l k 0)

abbrev pub accepted : Reply → Bool
accepted (number n) = eqb n 0
accepted (verdict b) = b
accepted (answered r) = eqb r.number 0

-- "A line that doesn't parse, a list number at or above L, or a reading with no room is counted in a last line, always written, and otherwise skipped."
abbrev pub taken : Shift → Option Reading → Shift
taken s (Some r) =
    record {
      held = held s.held (inserting r.list r.key);
      skipped = cond (accepted (reply s.held (inserting r.list r.key))) s.skipped (suc s.skipped);
    }
taken s None = record { held = s.held; skipped = suc s.skipped }

abbrev pub taken_all : Shift → List (List ℕ) → Shift
taken_all s [] = s
taken_all s (line ∷ lines) = taken_all (taken s (parsed line)) lines

-- "It uses two lists, 8 levels, 400 nodes".
abbrev pub fresh : Shift
fresh = record { held = whole (set_up 2 8 400); skipped = 0 }

abbrev pub shift_of : List ℕ → Shift
shift_of text = taken_all fresh (lines_of text)
