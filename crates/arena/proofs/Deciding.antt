-- What an answer of yes, and one of no, tell of what was asked. Rests on specs/Decides.
use mathlib.Core.Path.{◌≡◌}
use mathlib.Core.Bool.{Bool, true, false}
use Rattle.arena.specs.Decides.{Decides}

pub yes : {b : Bool} {P : Type 0} → Decides b P → b ≡ true → P
yes {b} h e = h.sound (rw e tt)

pub no : {b : Bool} {P : Type 0} → Decides b P → b ≡ false → P → ⊥
no {b} h e p = rw e at (h.complete p)

pub say_yes : {P : Type 0} → P → Decides true P
say_yes p = record { sound = λ _. p; complete = λ _. tt }

pub say_no : {P : Type 0} → (P → ⊥) → Decides false P
say_no n = record { sound = absurd; complete = n }
