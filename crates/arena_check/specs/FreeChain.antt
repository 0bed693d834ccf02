-- When any words have a free chain. Rests on link_check's Shape and LevelLinks.
use Rattle.std.specs.Prelude.{ℕ, zero, suc, ◌≡◌, List}
use Rattle.model.specs.Nodes.{N}
use Rattle.link_check.specs.declared.Dims.{Dims}
use Rattle.link_check.specs.Shape.{NodeSlot, key_in, height_in, next_in, last_in}
use Rattle.link_check.specs.LevelLinks.{AbsentFrom}

-- Slot s has the form of a free node: "0, N, next free or N, 0, and N, 0 for each link".
pub record FreeNode (w : List ℕ) (d : Dims) (s : ℕ) : Type 0 where
  pub slot : NodeSlot d s
  pub zero : key_in w d s ≡ 0
  pub mark : height_in w d s ≡ N
  pub zero_last : last_in w d s ≡ 0
  pub links : AbsentFrom w d s 0

-- From slot s on, by next, are n free nodes, and then N.
unfoldable pub FreeFrom : List ℕ → Dims → ℕ → ℕ → Type 0
FreeFrom w d zero s = s ≡ N
FreeFrom w d (suc n) s = FreeNode w d s × FreeFrom w d n (next_in w d s)
