-- The promise of the answer allows one number and one content of the slice. Rests on specs/Reports and model's Unique.
use Prim.Native.Nat.{ℕ}
use mathlib.Core.Path.{◌≡◌, sym, ◌∙◌}
use mathlib.Core.List.{List, List-discrete}
use lib.ListN.{length}
use native.Mathlib.Decide.{ℕ_discrete}
use Rattle.model.specs.Passes.{Passes}
use Rattle.model.proofs.Tests.{test, hit, miss}
use Rattle.model.proofs.Unique.{either_way}
use Rattle.shift.specs.Reports.{room, AnswerPromise}

module _ {w before u v : List ℕ} {skipped m n : ℕ} (p : AnswerPromise w skipped before u m) (q : AnswerPromise w skipped before v n) where
  pub answer_unique : (m ≡ n) × (u ≡ v)
  answer_unique = elim (test room (length before)) [
    | hit e long ↦ (
      either_way ℕ_discrete (Passes w) (λ h. (p.whole long h).0 ∙ sym (q.whole long h).0) (λ h. (p.broken h).0 ∙ sym (q.broken h).0),
      either_way (List-discrete ℕ_discrete) (Passes w) (λ h. (p.whole long h).1 ∙ sym (q.whole long h).1) (λ h. (p.broken h).1 ∙ sym (q.broken h).1),
    )
    | miss e low ↦ ((p.short low).0 ∙ sym (q.short low).0, (p.short low).1 ∙ sym (q.short low).1)
  ]
