-- From what the check, the row for a list's number and the walks answer to the promise of `answer`. Rests on specs/Figured and answers' Lists.
use Prim.Native.Nat.{ℕ}
use mathlib.Core.Path.{◌≡◌, refl, sym, ap, ◌∙◌}
use mathlib.Core.Bool.{Bool, true, false, false≢true, cond}
use mathlib.Core.List.{List, [], ◌∷◌}
use lib.Dec.{ltb}
use lib.ListN.{length}
use native.Mathlib.Omega.{arith}
use borrow.Author.Tests.{lt-ltb}
use Rattle.model.specs.Nodes.{Node}
use Rattle.model.specs.Passes.{decode, nodes}
use Rattle.model.specs.Calls.{row3, CheckPromise}
use Rattle.arena.specs.Owners.{Listed}
use Rattle.answers.specs.Told.{number_of}
use Rattle.answers.specs.declared.Refusal.{Refusal}
use Rattle.answers.specs.declared.Refusal.TheVariants.{Broken, NoList}
use Rattle.figures.specs.Figured.{figures_of, figures_in, FiguresPromise}
use Rattle.std.specs.Prelude.{Result, Ok, Err}
use Rattle.figures.specs.declared.Figures.{Figures}
use Rattle.answers.proofs.Numbers.{same_number}

-- a list without keys has zeros
pub none : (xs : List Node) → length xs ≡ 0 → record { count = 0; smallest = 0; largest = 0; lower = 0; middle = 0; upper = 0 } ≡ figures_of xs
none [] e = refl
none (y ∷ ys) e = absurd (omega arith)

-- a list that is there has its figures
pub there : {w : List ℕ} {m a : ℕ} → Listed w m a → Ok (figures_of (nodes w a)) ≡ figures_in (decode w) a
there {w} {a = a} p = rw (lt-ltb a (length (decode w).lists) p.list) refl

-- where row 3 refuses whatever the later rows give, the list is not there
pub not_there : (w : List ℕ) (a : ℕ) {r : Refusal} → ((later : ℕ) → row3 (decode w) a later ≡ number_of r) → Err r ≡ figures_in (decode w) a
not_there w a {r} f = go (ltb a (length (decode w).lists)) f
  where
    go : (b : Bool) → ((later : ℕ) → cond b later 3 ≡ number_of r) → Err r ≡ cond b (Ok (figures_of (nodes w a))) (Err NoList)
    go true f = absurd (omega (arith, f 0, f 1))
    go false f = ap Err (same_number (sym (f 0)))

module _ {w : List ℕ} {yes : Bool} (check : CheckPromise w yes) {a : ℕ} where
  pub broken : yes ≡ false → FiguresPromise a w (Err Broken)
  broken e = record { broken = λ _. refl; whole = λ p. absurd (false≢true (sym e ∙ check.complete p)) }

  pub whole : {r : Result Figures Refusal} → yes ≡ true → r ≡ figures_in (decode w) a → FiguresPromise a w r
  whole e k = record { broken = λ n. absurd (n (check.sound e)); whole = λ _. k }
