-- What a call returns is known by the numbers that it tells, so that each promise allows one returned value and one content of the words: for every
-- answer type, refusals included. Rests on model's Unique and answers' Numbers.
use Prim.Native.Nat.{ℕ}
use Rattle.std.specs.Prelude.{Result, Ok, Err, ⊤}
use mathlib.Core.Path.{◌≡◌, refl, sym, ap, ◌∙◌}
use mathlib.Core.Bool.{cond}
use mathlib.Core.List.{List}
use lib.Dec.{eqb}
use borrow.Author.Tests.{ne_eqb}
use native.Mathlib.Omega.{arith}
use Rattle.model.specs.Calls.{Call, Answer, Promise, SetUpPromise}
use Rattle.model.proofs.Unique.{call_unique, set_up_unique}
use Rattle.link.specs.Distances.{Told, told}
use Rattle.link.specs.declared.LinkError.{LinkError}
use Rattle.link.specs.declared.LinkError.TheVariants.{Invalid, Overflow, Underflow}
use Rattle.setup.specs.Bare.{number_of as setup_number}
use Rattle.setup.specs.declared.WrongSizes.{WrongSizes}
use Rattle.answers.specs.Told.{number_of, search_told, key_told, middle_told, plain_told}
use Rattle.answers.proofs.Numbers.{refusal_of, refusal-back, below_ten}
use Rattle.answers.specs.declared.Refusal.{Refusal}
use Rattle.answers.specs.declared.SearchError.{SearchError}
use Rattle.answers.specs.declared.SearchError.TheVariants.{Refused, Beyond}
use Rattle.key_walk.specs.declared.Searched.{Searched}
use Rattle.key_walk.specs.declared.Searched.TheVariants.{Found, Missing}

-- ---- the returned value back from its numbers ----
abbrev search_of : Answer → Result Searched SearchError
search_of x =
    cond (eqb x.number 0)
    (Ok (cond (eqb x.found 1) (Found (record { 0 = x.place }) x.tally) (Missing (record { 0 = x.place }) x.tally)))
    (Err (cond (eqb x.number 10) (Beyond x.tally) (Refused (refusal_of x.number))))

abbrev key_of : Answer → Result ℕ Refusal
key_of x = cond (eqb x.number 0) (Ok x.key) (Err (refusal_of x.number))

abbrev plain_of : Answer → Result ⊤ Refusal
plain_of x = cond (eqb x.number 0) (Ok tt) (Err (refusal_of x.number))

abbrev distance_of : Told → Result ℕ LinkError
distance_of x = cond (eqb x.number 0) (Ok x.distance) (Err (cond (eqb x.number 11) Invalid (cond (eqb x.number 12) Overflow Underflow)))

abbrev setup_of : ℕ → Result ⊤ WrongSizes
setup_of n = cond (eqb n 0) (Ok tt) (Err (record {}))

-- a refusal's number is not 0, and gives it back
refused-back : {A : Type 0} (accepted : A) (tells : Refusal → A) (r : Refusal) → cond (eqb (number_of r) 0) accepted (tells (refusal_of (number_of r))) ≡ tells r
refused-back accepted tells r = rw (ne_eqb (number_of r) 0 (λ e. omega (arith, below_ten r, e))) (ap tells (refusal-back r))

search_back : (a : Result Searched SearchError) → search_of (search_told a) ≡ a
search_back (Ok (Found i n)) = refl
search_back (Ok (Missing i n)) = refl
search_back (Err (Beyond n)) = refl
search_back (Err (Refused r)) =
    let some = ne_eqb (number_of r) 0 (λ e. omega (arith, below_ten r, e)) in
    let not-ten = ne_eqb (number_of r) 10 (λ e. omega (arith, below_ten r, e)) in
    rw (some, not-ten) (ap (λ (x : Refusal). Err (Refused x)) (refusal-back r))

key_back : (a : Result ℕ Refusal) → key_of (key_told a) ≡ a
key_back (Ok k) = refl
key_back (Err r) = refused-back _ Err r

plain_back : (a : Result ⊤ Refusal) → plain_of (plain_told a) ≡ a
plain_back (Ok _) = refl
plain_back (Err r) = refused-back _ Err r

distance_back : (a : Result ℕ LinkError) → distance_of (told a) ≡ a
distance_back (Ok d) = refl
distance_back (Err Invalid) = refl
distance_back (Err Overflow) = refl
distance_back (Err Underflow) = refl

setup_back : (a : Result ⊤ WrongSizes) → setup_of (setup_number a) ≡ a
setup_back (Ok _) = refl
setup_back (Err _) = refl

-- ---- one returned value, one content ----
-- a value that is known by what it tells is one where that is one
one : {A B : Type 0} (tells : A → B) (back : B → A) → ((a : A) → back (tells a) ≡ a) → {a b : A} → tells a ≡ tells b → a ≡ b
one tells back h {a} {b} e = sym (h a) ∙ ap back e ∙ h b

module _ {c : Call} {w u v : List ℕ} where
  pub one_search : {a b : Result Searched SearchError} → Promise c w u (search_told a) → Promise c w v (search_told b) → (a ≡ b) × (u ≡ v)
  one_search p q = let e = call_unique p q in (one search_told search_of search_back e.0, e.1)

  pub one_key : {a b : Result ℕ Refusal} → Promise c w u (key_told a) → Promise c w v (key_told b) → (a ≡ b) × (u ≡ v)
  one_key p q = let e = call_unique p q in (one key_told key_of key_back e.0, e.1)

  pub one_middle : {a b : Result ℕ Refusal} → Promise c w u (middle_told a) → Promise c w v (middle_told b) → (a ≡ b) × (u ≡ v)
  one_middle = one_key

  pub one_plain : {a b : Result ⊤ Refusal} → Promise c w u (plain_told a) → Promise c w v (plain_told b) → (a ≡ b) × (u ≡ v)
  one_plain p q = let e = call_unique p q in (one plain_told plain_of plain_back e.0, e.1)

pub one-set_up : {L M C : ℕ} {w u v : List ℕ} {a b : Result ⊤ WrongSizes} → SetUpPromise L M C w u (setup_number a) → SetUpPromise L M C w v (setup_number b) → (a ≡ b) × (u ≡ v)
one-set_up p q = let e = set_up_unique p q in (one setup_number setup_of setup_back e.0, e.1)

-- a link call's promise is an equation: what it tells
pub one-distance : {t : Told} {a b : Result ℕ LinkError} → told a ≡ t → told b ≡ t → a ≡ b
one-distance p q = one told distance_of distance_back (p ∙ sym q)
