-- What `Valued` tells of a key, of twice a median, of a call that answers nothing more, of set-up and of a distance is what document 01 says of each.
-- Rests on specs/Read.
use Prim.Native.Nat.{ℕ}
use mathlib.Core.Path.{ap, ◌∙◌}
use Rattle.std.specs.Prelude.{◌≡◌, Result, Ok, Err, ⊤}
use Rattle.link.specs.Distances.{Told, told}
use Rattle.link.specs.declared.LinkError.{LinkError}
use Rattle.link.specs.declared.LinkError.TheVariants.{Invalid, Overflow, Underflow}
use Rattle.setup.specs.Bare.{number_of as setup_number}
use Rattle.setup.specs.declared.WrongSizes.{WrongSizes}
use Rattle.answers.specs.Told.{number_of, key_told, middle_told, plain_told}
use Rattle.answers.specs.declared.Refusal.{Refusal}
use Rattle.numbers.specs.declared.Valued.{Valued}
use Rattle.numbers.specs.Read.{Tells, keyed_of, distance_of}

pub key_as_told : (a : Result ℕ Refusal) {n : Valued ℕ} → Tells (λ x. x ≡ 0) number_of a n → keyed_of n ≡ key_told a
key_as_told (Ok k) (e, f) = cc
key_as_told (Err r) (e, f) = cc

pub middle_as_told : (a : Result ℕ Refusal) {n : Valued ℕ} → Tells (λ x. x ≡ 0) number_of a n → keyed_of n ≡ middle_told a
middle_as_told = key_as_told

pub plain_as_told : (a : Result ⊤ Refusal) {n : Valued ⊤} → Tells (λ _. ⊤) number_of a n → n.number ≡ (plain_told a).number
plain_as_told (Ok _) (e, f) = e
plain_as_told (Err r) (e, f) = e

pub setup_as_told : (a : Result ⊤ WrongSizes) {n : Valued ⊤} → Tells (λ _. ⊤) (λ _. 2) a n → n.number ≡ setup_number a
setup_as_told (Ok _) (e, f) = e
setup_as_told (Err _) (e, f) = e

abbrev with : ℕ → ℕ → Told
with r d = record { number = r; distance = d }

same_told : {t : Told} {n : Valued ℕ} → n.number ≡ t.number → n.value ≡ t.distance → distance_of n ≡ t
same_told {t} {n} e f = ap (λ (x : ℕ). with x n.value) e ∙ ap (λ (y : ℕ). with t.number y) f

pub distance_as_told : (a : Result ℕ LinkError) {n : Valued ℕ} → Tells (λ x. x ≡ 0) (λ e. (told (Err e)).number) a n → distance_of n ≡ told a
distance_as_told (Ok d) (e, f) = same_told e f
distance_as_told (Err Invalid) (e, f) = same_told e f
distance_as_told (Err Overflow) (e, f) = same_told e f
distance_as_told (Err Underflow) (e, f) = same_told e f
