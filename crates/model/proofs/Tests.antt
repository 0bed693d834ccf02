-- Tests with what they tell: a case split that carries the equation for `rw` and the fact for `omega`. Rests on the toolchain's libraries.
use Prim.Native.Nat.{ℕ, ◌≤◌, ◌<◌}
use mathlib.Core.Path.{◌≡◌}
use mathlib.Core.Logic.{◌≢◌}
use mathlib.Core.Bool.{true, false}
use lib.Dec.{leb, eqb}
use native.Mathlib.Decide.{dec_le, ℕ_discrete}
use native.Mathlib.Nat.{lt_of_not-le}
use borrow.Author.Tests.{le-leb, lt-leb, eq-eqb, ne_eqb}

pub data Test (a b : ℕ) : Type 0 where
  hit : leb a b ≡ true → a ≤ b → Test a b
  miss : leb a b ≡ false → b < a → Test a b

pub test : (a b : ℕ) → Test a b
test a b = elim (dec_le a b) [ yes p ↦ hit (le-leb a b p) p | no q ↦ miss (lt-leb a b (lt_of_not-le q)) (lt_of_not-le q) ]

pub data Same (a b : ℕ) : Type 0 where
  same : eqb a b ≡ true → a ≡ b → Same a b
  other : eqb a b ≡ false → a ≢ b → Same a b

pub same? : (a b : ℕ) → Same a b
same? a b = elim (ℕ_discrete a b) [ yes e ↦ same (eq-eqb a b e) e | no n ↦ other (ne_eqb a b n) n ]
