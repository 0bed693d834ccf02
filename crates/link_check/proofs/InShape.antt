-- Words of an arena's length: every record of a slot lies in them. Rests on specs/Shape.
use Prim.Native.Nat.{ℕ, ◌+◌, ◌<◌}
use mathlib.Core.List.{List}
use native.Mathlib.Nat.{mul-le-mul_right}
use native.Mathlib.Omega.{arith}
use Rattle.model.specs.Arena.{width}
use Rattle.model.specs.Cells.{Cell}
use Rattle.arena.specs.Linked.{LinkIn}
use Rattle.link_check.specs.declared.Dims.{Dims}
use Rattle.link_check.specs.Shape.{Shape}

module _ {w : List ℕ} {d : Dims} {s : ℕ} (v : Shape w d) (i : s < d.lists + d.room) where
  pub cell_in_shape : {c : ℕ} → c < width d.levels → Cell w d.levels s c
  cell_in_shape k = record { small = v.ranges.levels_most; column = k; inside = omega (arith, v.size, mul-le-mul_right (width d.levels) i) }

  pub link_in_shape : {l : ℕ} → l < d.levels → LinkIn w d.levels s l
  link_in_shape k = record { small = v.ranges.levels_most; level = k; inside = omega (arith, v.size, mul-le-mul_right (width d.levels) i) }
