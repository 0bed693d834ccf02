-- From the parts of the answer to its promise: what is put from the front is the front, and the rest stays. Rests on specs/Reports.
use Prim.Native.Nat.{ℕ, ◌≤◌, ◌<◌}
use mathlib.Core.Path.{◌≡◌, refl, sym, ap, ◌∙◌}
use mathlib.Core.List.{List, ◌++◌}
use lib.ListN.{length, drop, take-append-drop}
use native.Mathlib.Omega.{arith}
use Rattle.model.specs.Passes.{decode, Passes}
use Rattle.figures_text.specs.Texts.{last_of, Put}
use Rattle.figures_text.proofs.Putting.{both}
use Rattle.shift.specs.Reports.{lines_from, text_of, report_on, room, AnswerPromise}

module _ {w : List ℕ} {skipped : ℕ} {before : List ℕ} where
  pub too_short : length before < room → AnswerPromise w skipped before before 0
  too_short h = record { short = λ l. (refl, refl); broken = λ n. (refl, refl); whole = λ l p. absurd (omega arith) }

  pub not_passing : ¬ Passes w → AnswerPromise w skipped before before 0
  not_passing n = record { short = λ l. (refl, refl); broken = λ m. (refl, refl); whole = λ l p. absurd (n p) }

  pub whole-report :
      {lined after : List ℕ} {at end : ℕ}
      → Passes w
      → room ≤ length before
      → Put 0 (lines_from 0 (report_on (decode w).lists skipped).figures) before lined at
      → Put at (last_of skipped) lined after end
      → AnswerPromise w skipped before after end
  whole-report {lined} {after} {at} {end} p l lines last =
      let text = text_of (report_on (decode w).lists skipped) in
      let all = both lines last in
      let counts : end ≡ length text = omega (arith, all.ends) in
      record {
        short = λ h. absurd (omega arith);
        broken = λ n. absurd (n p);
        whole = λ h q. (
          counts,
          sym (take-append-drop end after)
              ∙ ap (λ (x : List ℕ). x ++ drop end after) all.front
              ∙ ap (λ (x : List ℕ). text ++ x) (all.rest ∙ ap (λ n. drop n before) counts),
        );
      }
