-- What C gets, as the answer that it tells: the number r that a call returns, and its out-parameters. Rests on model's Calls and link's Distances.
use Rattle.std.specs.Prelude.{ℕ, ◌≡◌, List}
use Rattle.model.specs.Passes.{Passes}
use Rattle.model.specs.Calls.{Answer}
use Rattle.link.specs.Distances.{Told}

abbrev pub alone : ℕ → Answer
alone r = record { number = r; found = 0; place = 0; key = 0; tally = 0 }

abbrev pub with_key : ℕ → ℕ → Answer
with_key r key = record { number = r; found = 0; place = 0; key = key; tally = 0 }

abbrev pub with_place : ℕ → ℕ → ℕ → ℕ → Answer
with_place r found place tally = record { number = r; found = found; place = place; key = 0; tally = tally }

abbrev pub with_distance : ℕ → ℕ → Told
with_distance r distance = record { number = r; distance = distance }

-- The check: 1 exactly for yes, 0 exactly for no.
pub record Verdict (w : List ℕ) (r : ℕ) : Type 0 where
  pub sound : r ≡ 1 → Passes w
  pub yes : Passes w → r ≡ 1
  pub no : ¬ Passes w → r ≡ 0
