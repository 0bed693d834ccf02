-- What the walk by rank answers, in document 01's own terms. Rests on model's specs.
use Rattle.std.specs.Prelude.{ℕ, suc, ◌-◌, ◌<◌, ◌≡◌, List, get_or, Option, Some, None}
use Rattle.std.proofs.Math.Option.{Option as Maybe, none, some}
use Rattle.model.specs.Nodes.{Node, slot_at}
use Rattle.model.specs.Walks.{rank_precursors, rank_walk}
use Rattle.model.specs.Passes.{nodes}
use Rattle.arena.specs.Owners.{slot_in, rank_in}
use Rattle.arena.specs.declared.Slot.{Slot}
use Rattle.rank_walk.specs.declared.Reached.{Reached}

-- "Target 0 ends at the head at once .. Above the length it ends with none": the slot at the rank where the walk ends. `Maybe` is the option
-- of the model's walks, `Option` that of the code.
abbrev pub end_of : ℕ → List Node → Maybe ℕ → Option Slot
end_of a xs none = None
end_of a xs (some r) = Some (record { 0 = slot_at a xs r })

pub record WalkedByRank (w : List ℕ) (m a t : ℕ) (r : Reached) : Type 0 where
  pub rank : (l : ℕ) → l < m → rank_in r.path.ranks l ≡ get_or (rank_precursors m t (nodes w a) 0) (m - suc l) 0
  pub slot : (l : ℕ) → l < m → slot_in r.path.slots l ≡ slot_at a (nodes w a) (rank_in r.path.ranks l)
  pub ended : r.ended ≡ end_of a (nodes w a) (rank_walk m t (nodes w a))
