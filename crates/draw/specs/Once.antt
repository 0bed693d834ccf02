-- That words pass is a fact: it has one proof at most, so that a type can keep it. Rests on model's Passes and arena's ListedOnce.
use Rattle.std.specs.Prelude.{ℕ, List}
use Rattle.std.specs.Coded.{le_prop, Coded-set, coded_ℕ}
use Rattle.model.specs.Passes.{Passes}
use Rattle.arena.specs.ListedOnce.{sorted_lists, low_lists, words_set}

pub passes_prop : (w : List ℕ) → IsProp (Passes w)
passes_prop w = hlevel (le_prop, Coded-set coded_ℕ, words_set, sorted_lists, low_lists)
