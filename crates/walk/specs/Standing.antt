-- Where a walk stands in words that pass, and where it stops. Rests on model's specs and on arena's `Owner`.
use Rattle.std.specs.Prelude.{ℕ, ◌≤◌, ◌≡◌, List, length, take}
use Rattle.model.specs.Closed.{last}
use Rattle.model.specs.Passes.{decode, nodes}
use Rattle.arena.specs.Owners.{Owner}

-- Slot s is at rank r of list a, has the links below h, and r is no further than rank i.
pub record Standing (w : List ℕ) (m a i h s r : ℕ) : Type 0 where
  pub owner : Owner w a r s h
  pub levels : m ≡ (decode w).levels
  pub before : r ≤ i
  pub within : i ≤ length (nodes w a)

-- A walk along stage h has stopped: slot s is the last owner of height h that is no further than rank i.
pub record Sought (w : List ℕ) (m a i h s r : ℕ) : Type 0 where
  pub stands : Standing w m a i h s r
  pub last_one : r ≡ last h (take i (nodes w a))
