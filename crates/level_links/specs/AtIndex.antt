-- An insertion or a removal at an index: what it asks of words, and the model that an insertion leaves. Rests on model's specs and on arena's Listed.
use Rattle.std.specs.Prelude.{ℕ, ◌≤◌, ◌<◌, ◌≡◌, List, length, drop}
use Rattle.model.specs.Nodes.{node, at, Sorted}
use Rattle.model.specs.Lists.{insert_at}
use Rattle.model.specs.Arena.{State, first_free, list_of, put_list}
use Rattle.model.specs.Passes.{decode, nodes}
use Rattle.arena.specs.Owners.{Listed}

-- Key k at height h stands before index i of list a, in the first free slot.
abbrev pub inserted_at : State → ℕ → ℕ → ℕ → ℕ → State
inserted_at S a i k h = put_list S a (insert_at i (node (first_free S.free) k h) (list_of S a)) (drop 1 S.free)

-- Key k at height h can go into list a before index i: there is room, and the keys stay in order.
pub record CanInsert (w : List ℕ) (m a i k h : ℕ) : Type 0 where
  pub listed : Listed w m a
  pub height : h ≤ m
  pub room : 0 < length (decode w).free
  pub within : i ≤ length (nodes w a)
  pub sorted : Sorted (insert_at i (node (first_free (decode w).free) k h) (nodes w a))

-- The node at index i of list a stands in slot o and has height h.
pub record NodeIs (w : List ℕ) (a i o h : ℕ) : Type 0 where
  pub slot : o ≡ (at (nodes w a) i).slot
  pub height : h ≡ (at (nodes w a) i).height
