-- The promise of `answer` allows one answer. Whether the arena passes is not decided for it: the numbers of an answer are. Rests on specs/Figured
-- and model's Unique.
use Prim.Native.Nat.{ℕ}
use mathlib.Core.Path.{◌≡◌, sym, ap, ◌∙◌}
use mathlib.Core.List.{List, [], ◌∷◌, List-discrete}
use native.Mathlib.Decide.{ℕ_discrete}
use native.Mathlib.Omega.{arith}
use lib.ListN.{length, get_or}
use Rattle.model.specs.Passes.{Passes}
use Rattle.model.proofs.Unique.{either_way}
use Rattle.answers.specs.Told.{number_of}
use Rattle.figures.specs.Figured.{FiguresPromise}
use Rattle.std.specs.Prelude.{Result, Ok, Err}
use Rattle.answers.specs.declared.Refusal.{Refusal}
use Rattle.figures.specs.declared.Figures.{Figures}
use Rattle.answers.proofs.Numbers.{same_number}

-- an answer as numbers, by which two are told apart
abbrev told : Result Figures Refusal → List ℕ
told (Ok f) = f.count ∷ f.smallest ∷ f.largest ∷ f.lower ∷ f.middle ∷ f.upper ∷ []
told (Err r) = number_of r ∷ []

same-told : (r s : Result Figures Refusal) → told r ≡ told s → r ≡ s
same-told (Ok f) (Ok g) e =
    let at : (i : ℕ) → get_or (told (Ok f)) i 0 ≡ get_or (told (Ok g)) i 0 = λ i. ap (λ (l : List ℕ). get_or l i 0) e in
    λ j. Ok (record { count = at 0 j; smallest = at 1 j; largest = at 2 j; lower = at 3 j; middle = at 4 j; upper = at 5 j })
same-told (Ok f) (Err r) e = absurd (omega (arith, ap length e))
same-told (Err r) (Ok f) e = absurd (omega (arith, ap length e))
same-told (Err r) (Err s) e = ap Err (same_number (ap (λ (l : List ℕ). get_or l 0 0) e))

pub figures_unique : {a : ℕ} {w : List ℕ} {r s : Result Figures Refusal} → FiguresPromise a w r → FiguresPromise a w s → r ≡ s
figures_unique {w = w} {r} {s} p q =
    same-told r s
    (either_way (List-discrete ℕ_discrete) (Passes w)
    (λ h. ap told (p.whole h ∙ sym (q.whole h)))
    (λ h. ap told (p.broken h ∙ sym (q.broken h))))
