-- Each promise allows one answer and one content of the words. Whether the arena passes is not decided for it: numbers and lists are.
-- Rests on specs/Calls.
use Prim.Native.Nat.{ℕ}
use mathlib.Core.Path.{◌≡◌, sym, ap, ◌∙◌}
use mathlib.Core.Bool.{Bool, true, false}
use mathlib.Core.List.{List, List-discrete}
use native.Mathlib.Decide.{ℕ_discrete}
use lib.ListN.{length}
use Rattle.model.specs.Calls.{Call, Answer, Promise, Room, SetUpPromise, CheckPromise}
use Rattle.model.specs.Passes.{Passes}

-- equal whether P holds or not: equal
pub either_way : {A : Type 0} → Discrete A → (P : Type 0) {x y : A} → (P → x ≡ y) → (¬ P → x ≡ y) → x ≡ y
either_way d P {x} {y} f g = elim (d x y) [ yes e ↦ e | no n ↦ absurd (n (g (λ p. n (f p)))) ]

-- two answers are equal field by field
same_answer : {r s : Answer} → r.number ≡ s.number → r.found ≡ s.found → r.place ≡ s.place → r.key ≡ s.key → r.tally ≡ s.tally → r ≡ s
same_answer a b c d e = λ i. record { number = a i; found = b i; place = c i; key = d i; tally = e i }

module _ {P : Type 0} {r s : Answer} (whole : P → r ≡ s) (broken : ¬ P → r ≡ s) where
  field : (f : Answer → ℕ) → f r ≡ f s
  field f = either_way ℕ_discrete P (λ h. ap f (whole h)) (λ h. ap f (broken h))

  one_answer : r ≡ s
  one_answer = same_answer (field (λ a. a.number)) (field (λ a. a.found)) (field (λ a. a.place)) (field (λ a. a.key)) (field (λ a. a.tally))

pub call_unique : {c : Call} {w u v : List ℕ} {r s : Answer} → Promise c w u r → Promise c w v s → (r ≡ s) × (u ≡ v)
call_unique {w = w} p q = (
  one_answer (λ (h : Passes w). (p.whole h).0 ∙ sym (q.whole h).0) (λ h. (p.broken h).0 ∙ sym (q.broken h).0),
  either_way (List-discrete ℕ_discrete) (Passes w) (λ h. (p.whole h).1 ∙ sym (q.whole h).1) (λ h. (p.broken h).1 ∙ sym (q.broken h).1),
)

pub set_up_unique : {L M C m n : ℕ} {w u v : List ℕ} → SetUpPromise L M C w u m → SetUpPromise L M C w v n → (m ≡ n) × (u ≡ v)
set_up_unique {L} {M} {C} {w = w} p q = (
  either_way ℕ_discrete (Room L M C (length w)) (λ h. (p.right h).0 ∙ sym (q.right h).0) (λ h. (p.wrong h).0 ∙ sym (q.wrong h).0),
  either_way (List-discrete ℕ_discrete) (Room L M C (length w)) (λ h. (p.right h).1 ∙ sym (q.right h).1) (λ h. (p.wrong h).1 ∙ sym (q.wrong h).1),
)

pub check_unique : {w : List ℕ} {a b : Bool} → CheckPromise w a → CheckPromise w b → a ≡ b
check_unique {w} {a} {b} p q = both a b (λ e. q.complete (p.sound e)) (λ e. p.complete (q.sound e))
  where
    both : (x y : Bool) → (x ≡ true → y ≡ true) → (y ≡ true → x ≡ true) → x ≡ y
    both true y f g = sym (f (λ i. true))
    both false true f g = g (λ i. true)
    both false false f g = λ i. false
