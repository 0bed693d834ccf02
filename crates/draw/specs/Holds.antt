-- Which link a row of a picture holds before an index. Rests on model's links and arena's `Owner`.
use Rattle.std.specs.Prelude.{ℕ, suc, ◌+◌, ◌≤◌, ◌<◌, ◌≡◌, List, drop}
use Rattle.model.specs.Nodes.{slot_at}
use Rattle.model.specs.Links.{distance}
use Rattle.model.specs.Passes.{nodes}
use Rattle.arena.specs.Owners.{Owner}
use Rattle.draw.specs.declared.blocks.Held.{Held}

-- The link of level l that is held before index i of list a: that of an owner at or before rank i, which leads past rank i, if it is there.
pub record Holds (w : List ℕ) (a l i : ℕ) (h : Held) : Type 0 where
  pub owner : Owner w a h.from (slot_at a (nodes w a) h.from) (suc l)
  pub before : h.from ≤ i
  pub far : h.far ≡ distance (suc l) (drop h.from (nodes w a))
  pub past : 0 < h.far → i < h.from + h.far
