-- Link distances: what each call tells, and the number and distance of each case of the answer. Rests on nothing.
use Rattle.std.specs.Prelude.{ℕ, ◌+◌, ◌-◌, cond, eqb, Result, Ok, Err}
use Rattle.link.specs.declared.LinkError.{LinkError}
use Rattle.link.specs.declared.LinkError.TheVariants.{Invalid, Overflow, Underflow}

-- Document 01's number, and the distance beside it: "the link calls the distance", and "a refusal returns zeros beside its number".
pub record Told : Type 0 where
  pub number : ℕ
  pub distance : ℕ

abbrev pub is : ℕ → Told
is d = record { number = 0; distance = d }

abbrev pub refused : ℕ → Told
refused n = record { number = n; distance = 0 }

-- "11, 12, 13: a link distance: made as 0, or handed in as 0 to be raised or lowered; raised from 4294967295; lowered from 1".
abbrev pub made : ℕ → Told
made d = cond (eqb d 0) (refused 11) (is d)

abbrev pub raised : ℕ → Told
raised d = cond (eqb d 0) (refused 11) (cond (eqb d 4294967295) (refused 12) (is (d + 1)))

abbrev pub lowered : ℕ → Told
lowered d = cond (eqb d 0) (refused 11) (cond (eqb d 1) (refused 13) (is (d - 1)))

abbrev pub told : Result ℕ LinkError → Told
told (Ok d) = is d
told (Err Invalid) = refused 11
told (Err Overflow) = refused 12
told (Err Underflow) = refused 13
