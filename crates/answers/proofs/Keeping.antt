-- What a call keeps of an arena that passes: when it is refused, when it is accepted, when it only reads. Rests on specs/Lists and specs/Kept.
use Prim.Native.Nat.{ℕ}
use mathlib.Core.Path.{◌≡◌, refl, sym, ap, ◌∙◌}
use mathlib.Core.Bool.{Bool, true, false, cond}
use mathlib.Core.List.{List}
use lib.Dec.{eqb}
use native.Mathlib.Omega.{arith}
use borrow.Author.Tests.{eq-eqb, ne_eqb}
use Rattle.model.specs.Arena.{State, encode}
use Rattle.model.specs.Passes.{decode, Passes}
use Rattle.model.specs.Calls.{Call, Answer, refused, refusal, accepted, performed, answer_to, row3, row4}
use Rattle.answers.specs.Told.{number_of}
use Rattle.answers.specs.Lists.{NamesOne, NamesTwo}
use Rattle.answers.specs.Kept.{Kept}
use Rattle.std.specs.Prelude.{Result, Err}
use Rattle.answers.specs.declared.Refusal.{Refusal}
use Rattle.answers.proofs.Numbers.{below_ten}

same_either : {A : Type 0} (b : Bool) (x : A) → cond b x x ≡ x
same_either true x = refl
same_either false x = refl

module _ {w : List ℕ} (p : Passes w) where
  -- the rows give r: its number, zeros beside it, and the words as they were
  pub declines : {c : Call} (r : Refusal) → refusal (decode w) c ≡ number_of r → Kept c w w (refused (number_of r))
  declines r e =
      let some = ne_eqb (number_of r) 0 (λ z. omega (arith, below_ten r)) in
      let not-ten = ne_eqb (number_of r) 10 (λ z. omega (arith, below_ten r)) in
      record { answered = rw (e, some, not-ten) refl; left = rw (e, some) p.words }

  -- what `one_list` and `two_lists` refuse
  pub declines_one : (a : ℕ) {x : Result ℕ Refusal} {r : Refusal} {c : Call} → NamesOne w a x → x ≡ Err r
      → (later : ℕ) → refusal (decode w) c ≡ row3 (decode w) a later → Kept c w w (refused (number_of r))
  declines_one a {r = r} o e later q = declines r (q ∙ (rw e at o) later)

  pub declines_two : (a b : ℕ) {x : Result ℕ Refusal} {r : Refusal} {c : Call} → NamesTwo w a b x → x ≡ Err r
      → (later : ℕ) → refusal (decode w) c ≡ row3 (decode w) a (row3 (decode w) b (row4 a b later)) → Kept c w w (refused (number_of r))
  declines_two a b {r = r} o e later q = declines r (q ∙ (rw e at o) later)

  pub accepts : {c : Call} {u : List ℕ} {r : Answer} → refusal (decode w) c ≡ 0 → r ≡ accepted (decode w) c → u ≡ encode (performed (decode w) c) → Kept c w u r
  accepts {c} e a b = record { answered = rw (eq-eqb (refusal (decode w) c) 0 e) a; left = rw (eq-eqb (refusal (decode w) c) 0 e) b }

  -- a call that changes nothing
  pub reads : {c : Call} {r : Answer} → performed (decode w) c ≡ decode w → r ≡ answer_to (decode w) c → Kept c w w r
  reads {c} e a =
      let yes = eqb (refusal (decode w) c) 0 in
      record { answered = a; left = p.words ∙ ap encode (sym (ap (λ (S : State). cond yes S (decode w)) e ∙ same_either yes (decode w))) }
