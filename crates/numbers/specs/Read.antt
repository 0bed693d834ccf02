-- Numbers read as the answers that they tell. Rests on model's Calls and link's Distances.
use Rattle.std.specs.Prelude.{ℕ, ◌≡◌, Result, Ok, Err}
use Rattle.model.specs.Calls.{Answer}
use Rattle.link.specs.Distances.{Told}
use Rattle.numbers.specs.declared.Numbers.{Numbers}
use Rattle.numbers.specs.declared.Valued.{Valued}

-- An accepted call answers number 0 and its value, a refused one its number and a value that is nothing.
abbrev pub Tells : {T E : Type 0} → (T → Type 0) → (E → ℕ) → Result T E → Valued T → Type 0
Tells nothing number (Ok v) n = (n.number ≡ 0) × (n.value ≡ v)
Tells nothing number (Err e) n = (n.number ≡ number e) × nothing n.value

-- The value in the place of a key.
abbrev pub keyed_of : Valued ℕ → Answer
keyed_of n = record { number = n.number; found = 0; place = 0; key = n.value; tally = 0 }

abbrev pub distance_of : Valued ℕ → Told
distance_of n = record { number = n.number; distance = n.value }

abbrev pub answer_of : Numbers → Answer
answer_of n = record { number = n.number; found = n.found; place = n.place; key = 0; tally = n.tally }
