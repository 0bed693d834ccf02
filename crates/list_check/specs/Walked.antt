-- When one walk along a list finds it right, with the slots os and the ranks qs of the pending owners, by level.
-- Rests on link_check's Shape and LevelLinks.
use Rattle.std.specs.Prelude.{ℕ, zero, suc, ◌≤◌, ◌≡◌, List, replicate}
use Rattle.model.specs.Nodes.{N}
use Rattle.link_check.specs.declared.Dims.{Dims}
use Rattle.link_check.specs.LevelLinks.{AbsentFrom, PendingReach, PendingAbsent, filled}
use Rattle.link_check.specs.Shape.{NodeSlot, count_in, key_in, height_in, next_in, last_in}

-- Slot s has the form of a node of rank r, after a key k, and is where the pending links below its height go.
pub record NodeOk (w : List ℕ) (d : Dims) (s k r : ℕ) (os qs : List ℕ) : Type 0 where
  pub slot : NodeSlot d s
  pub rises : k ≤ key_in w d s
  pub low : height_in w d s ≤ d.levels
  pub zero : last_in w d s ≡ 0
  pub reached : PendingReach w d os qs (height_in w d s) s r
  pub absent : AbsentFrom w d s (height_in w d s)

-- From slot s on, by next, n nodes are right, and then comes N; e is the last slot. Key k, slot z and rank r are those just before.
unfoldable pub Walked : List ℕ → Dims → ℕ → ℕ → ℕ → ℕ → ℕ → ℕ → List ℕ → List ℕ → Type 0
Walked w d e zero s k z r os qs = (s ≡ N) × (z ≡ e) × PendingAbsent w d os
Walked w d e (suc n) s k z r os qs =
    NodeOk w d s k (suc r) os qs
    × Walked w d e n (next_in w d s) (key_in w d s) s (suc r) (filled (height_in w d s) s os) (filled (height_in w d s) (suc r) qs)

-- The walk along the list of head a finds it right; and so is the head's height.
abbrev pub WalkOk : List ℕ → Dims → ℕ → Type 0
WalkOk w d a = Walked w d (last_in w d a) (count_in w d a) (next_in w d a) 0 N 0 (replicate 16 a) (replicate 16 0)

pub record ListOk (w : List ℕ) (d : Dims) (a : ℕ) : Type 0 where
  pub height : height_in w d a ≡ d.levels
  pub walk : WalkOk w d a
