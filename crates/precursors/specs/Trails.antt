-- What the walk by key with precursors leaves. Rests on model's specs, on arena's `Leads` and on walk's Standing.
use Rattle.std.specs.Prelude.{ℕ, ◌≤◌, ◌<◌, ◌≡◌, Bool, true, false, List}
use Rattle.model.specs.Nodes.{N, slot_at, smaller}
use Rattle.model.specs.Walks.{is_found, key_walk}
use Rattle.model.specs.Cells.{Cell, cell_at}
use Rattle.model.specs.Passes.{nodes}
use Rattle.model.specs.Arena.{key_column}
use Rattle.arena.specs.Owners.{Leads}
use Rattle.arena.specs.declared.Slot.{Slot}
use Rattle.arena.specs.declared.Rank.{Rank}
use Rattle.walk.specs.Standing.{Standing, Sought}
use Rattle.precursors.specs.declared.Tracer.{Tracer}
use Rattle.precursors.specs.declared.Outcome.{Outcome}
use Rattle.precursors.specs.declared.Outcome.TheVariants.{Found, Missing}
use Rattle.precursors.specs.declared.Stop.{Stop}
use Rattle.precursors.specs.declared.Trail.{Trail}

-- Where a link leads: nowhere, or to a slot whose key can be read.
abbrev pub Readable : List ℕ → ℕ → ℕ → Type 0
Readable w m to = (to ≡ N → ⊥) → Cell w m to key_column

-- The link leads to a key that is below t.
abbrev pub GoesBelow : List ℕ → ℕ → ℕ → ℕ → Type 0
GoesBelow w m t to = (to < N) × (cell_at m w to key_column < t)

-- The key of the bound is not below t.
abbrev pub Bound : List ℕ → ℕ → ℕ → ℕ → Type 0
Bound w m t b = b < N → t ≤ cell_at m w b key_column

-- The walk for target t stands no further than the number of smaller keys.
pub record Begun (w : List ℕ) (m a h t : ℕ) (v : Tracer) : Type 0 where
  pub stands : Standing w m a (smaller t (nodes w a)) h v.slot.0 v.rank.0
  pub bound : Bound w m t v.bound.0

-- It has stopped along stage h: at the last owner of height h before the place of t.
pub record Halted (w : List ℕ) (m a h t : ℕ) (v : Tracer) : Type 0 where
  pub sought : Sought w m a (smaller t (nodes w a)) h v.slot.0 v.rank.0
  pub bound : Bound w m t v.bound.0

-- What the walk answers, by whether it finds.
abbrev pub outcome_of : Bool → Outcome
outcome_of true = Found
outcome_of false = Missing

pub record Stopped (w : List ℕ) (m a t : ℕ) (r : Stop) : Type 0 where
  pub slot : r.slot.0 ≡ slot_at a (nodes w a) (smaller t (nodes w a))
  pub rank : r.rank.0 ≡ smaller t (nodes w a)
  pub outcome : r.outcome ≡ outcome_of (is_found (key_walk m t (nodes w a)))

-- "for each level: the precursor is the last node of height above that level whose key is below the target, or the head, with its rank"; the
-- place is the number of smaller keys; found exactly when document 01's walk finds.
pub record Trailed (w : List ℕ) (m a t : ℕ) (r : Trail) : Type 0 where
  pub leads : Leads w m a (smaller t (nodes w a)) r.path
  pub place : r.place.0 ≡ smaller t (nodes w a)
  pub outcome : r.outcome ≡ outcome_of (is_found (key_walk m t (nodes w a)))

-- The trail has the precursors' slots ss and ranks rs, and the stop in front of the key's place.
pub record Joined (ss : List Slot) (rs : List Rank) (s : Stop) (r : Trail) : Type 0 where
  pub slots : r.path.slots ≡ ss
  pub ranks : r.path.ranks ≡ rs
  pub end : r.path.end.0 ≡ s.slot.0
  pub place : r.place.0 ≡ s.rank.0
  pub outcome : r.outcome ≡ s.outcome
