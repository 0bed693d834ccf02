-- The numbers of refusals: each names its refusal, and none is that of an accepted call or of the search's allowance. Rests on specs/Told.
use Prim.Native.Nat.{ℕ, ◌<◌}
use mathlib.Core.Path.{◌≡◌, refl, sym, ap, ◌∙◌}
use mathlib.Core.Bool.{cond}
use lib.Dec.{eqb}
use native.Mathlib.Omega.{arith}
use Rattle.answers.specs.declared.Refusal.{Refusal}
use Rattle.answers.specs.declared.Refusal.TheVariants.{Broken, NoList, SameList, TooHigh, Full, NotEmpty, PastEnd, NoKey}
use Rattle.answers.specs.Told.{number_of}

abbrev pub refusal_of : ℕ → Refusal
refusal_of n =
    cond (eqb n 1) Broken
    (cond (eqb n 3) NoList
    (cond (eqb n 4) SameList
    (cond (eqb n 5) TooHigh (cond (eqb n 6) Full (cond (eqb n 7) NotEmpty (cond (eqb n 8) PastEnd NoKey))))))

pub refusal-back : (r : Refusal) → refusal_of (number_of r) ≡ r
refusal-back Broken = refl
refusal-back NoList = refl
refusal-back SameList = refl
refusal-back TooHigh = refl
refusal-back Full = refl
refusal-back NotEmpty = refl
refusal-back PastEnd = refl
refusal-back NoKey = refl

pub same_number : {r s : Refusal} → number_of r ≡ number_of s → r ≡ s
same_number {r} {s} e = sym (refusal-back r) ∙ ap refusal_of e ∙ refusal-back s

-- a refusal's number is neither 0, which accepts, nor 10, which is the search's own
pub below_ten : (r : Refusal) → (0 < number_of r) × (number_of r < 10)
below_ten Broken = omega arith
below_ten NoList = omega arith
below_ten SameList = omega arith
below_ten TooHigh = omega arith
below_ten Full = omega arith
below_ten NotEmpty = omega arith
below_ten PastEnd = omega arith
below_ten NoKey = omega arith
