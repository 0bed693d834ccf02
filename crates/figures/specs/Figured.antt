-- Request K1: the figures of a list, and what the call that gives them promises. Rests on model's Nodes, Lists, Arena and Passes.
use Rattle.std.specs.Prelude.{ℕ, ◌-◌, ◌*◌, ◌/◌, ◌≡◌, cond, List, ltb, length, Result, Ok, Err}
use Rattle.model.specs.Nodes.{Node, key_at}
use Rattle.model.specs.Lists.{middle_of}
use Rattle.model.specs.Arena.{State, list_of}
use Rattle.model.specs.Passes.{decode, Passes}
use Rattle.answers.specs.declared.Refusal.{Refusal}
use Rattle.answers.specs.declared.Refusal.TheVariants.{Broken, NoList}
use Rattle.figures.specs.declared.Figures.{Figures}

-- "the keys at indexes floor(q(n-1)/4)".
abbrev pub quarter : ℕ → List Node → ℕ
quarter q xs = key_at xs (q * (length xs - 1) / 4)

-- "number of readings, smallest, largest, and the keys at indexes floor(q(n-1)/4) for q = 1, 2, 3"; request K2: "the report prints the doubled figure
-- for q = 2". Keys stand in order, so the smallest is the first and the largest the last. A list without readings has zeros beside its number 0.
abbrev pub figures_of : List Node → Figures
figures_of xs =
    record {
      count = length xs;
      smallest = key_at xs 0;
      largest = key_at xs (length xs - 1);
      lower = quarter 1 xs;
      middle = middle_of xs;
      upper = quarter 3 xs;
    }

-- "1: the arena doesn't pass the check"; "3: a list number is L or more".
abbrev pub figures_in : State → ℕ → Result Figures Refusal
figures_in S a = cond (ltb a (length S.lists)) (Ok (figures_of (list_of S a))) (Err NoList)

pub record FiguresPromise (a : ℕ) (w : List ℕ) (r : Result Figures Refusal) : Type 0 where
  pub broken : ¬ Passes w → r ≡ Err Broken
  pub whole : Passes w → r ≡ figures_in (decode w) a
