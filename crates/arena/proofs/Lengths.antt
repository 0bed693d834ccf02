-- How long a record and an arena can be. Rests on model's width.
use Prim.Native.Nat.{ℕ, ◌+◌, ◌*◌, ◌≤◌}
use native.Mathlib.Nat.{mul-le-mul, mul-le-mul_left}
use native.Mathlib.Omega.{arith}
use Rattle.model.specs.Arena.{width}

-- a record has few words
pub narrow : {m : ℕ} (s : ℕ) → m ≤ 16 → s * width m ≤ s * width 16
narrow {m} s l = let k : width m ≤ width 16 = omega arith in mul-le-mul_left s k

-- an arena's length is small
pub few : (l m c : ℕ) → (l ≤ 16) × (m ≤ 16) × (c ≤ 65535) → (l + c) * (width m) ≤ 65551 * width 16
few l m c h = mul-le-mul {n₂ = 65551} {m₂ = width 16} (omega (arith, h.0, h.2)) (omega (arith, h.1))
