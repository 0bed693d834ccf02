-- A distance that grows by k ranks, as model's links say it.
use Prim.Native.Nat.{ℕ, zero, suc, ◌+◌}
use mathlib.Core.Path.{◌≡◌, refl}
use mathlib.Core.Bool.{cond}
use native.Mathlib.Omega.{arith}
use borrow.Author.Tests.{ne_eqb}
use lib.Dec.{eqb}
use Rattle.model.proofs.Links.{past}

pub farther_is : (k d : ℕ) → cond (eqb d 0) 0 (d + k) ≡ past k d
farther_is k zero = refl
farther_is k (suc d) = rw (ne_eqb (suc d) 0 (λ e. omega (arith, e))) (omega arith)
