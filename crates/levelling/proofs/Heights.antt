-- The number of times 2 divides a rank, by halving: one turn of the loop.
use Prim.Native.Nat.{ℕ, suc, ◌+◌, ◌/◌, ◌%◌}
use mathlib.Core.Path.{◌≡◌}
use native.Mathlib.Omega.{arith}
use borrow.Author.Tests.{eq-eqb}
use Rattle.model.specs.Lists.{twos}

pub even_turn : (left n rest : ℕ) → left ≡ suc n → (rest % 2 ≡ 1 → ⊥) → twos left rest ≡ twos n (rest / 2) + 1
even_turn left n rest e odd = rw (e, eq-eqb (rest % 2) 0 (omega (arith, odd))) (omega arith)
