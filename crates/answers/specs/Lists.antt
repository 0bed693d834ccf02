-- What is known once the first rows are asked: 1 of the check's answer, 3 and 4 of the lists that a call names. Rests on model's Calls and arena's
-- Listed.
use Rattle.std.specs.Prelude.{ℕ, ◌≡◌, Bool, true, false, List, Result, Ok, Err, ⊤}
use Rattle.model.specs.Passes.{decode}
use Rattle.model.specs.Calls.{row3, row4}
use Rattle.arena.specs.Owners.{Listed, TwoLists}
use Rattle.answers.specs.Told.{number_of}
use Rattle.answers.specs.declared.Refusal.{Refusal}

-- The check says yes, or row 1 refuses.
abbrev pub Passed : Bool → Result ⊤ Refusal → Type 0
Passed whole (Ok x) = whole ≡ true
Passed whole (Err r) = (whole ≡ false) × (number_of r ≡ 1)

-- List a is there, or row 3 refuses, whatever the later rows give.
abbrev pub NamesOne : List ℕ → ℕ → Result ℕ Refusal → Type 0
NamesOne w a (Ok m) = Listed w m a
NamesOne w a (Err r) = (later : ℕ) → row3 (decode w) a later ≡ number_of r

-- Lists a and b are there and differ, or row 3 or 4 refuses, whatever the later rows give.
abbrev pub NamesTwo : List ℕ → ℕ → ℕ → Result ℕ Refusal → Type 0
NamesTwo w a b (Ok m) = TwoLists w m a b
NamesTwo w a b (Err r) = (later : ℕ) → row3 (decode w) a (row3 (decode w) b (row4 a b later)) ≡ number_of r
