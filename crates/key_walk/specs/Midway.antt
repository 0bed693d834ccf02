-- Where the walk by key stands between two looks, and where it ends, in its closed form. Rests on model's specs and on walk's Standing.
use Rattle.std.specs.Prelude.{ℕ, suc, ◌+◌, ◌<◌, ◌≡◌, Bool, true, false, cond, List, length, drop, Option, Some, None}
use Rattle.model.specs.Closed.{ends, tally, key_is}
use Rattle.model.specs.Cells.{base_of}
use Rattle.model.specs.Passes.{nodes}
use Rattle.arena.specs.declared.Slot.{Slot}
use Rattle.arena.specs.declared.Rank.{Rank}
use Rattle.walk.specs.Standing.{Standing}
use Rattle.key_walk.specs.declared.Visitor.{Visitor}
use Rattle.key_walk.specs.declared.Walked.{Walked}
use Rattle.key_walk.specs.declared.Walked.TheVariants.{Found, Missing}

-- A visitor at a slot and its rank, which knows where the record of its slot begins.
abbrev pub visitor_at : ℕ → Slot → Rank → ℕ → Visitor
visitor_at m slot rank left = record { slot = slot; base = base_of m slot.0; rank = rank; left = left }

-- The visitor stands in list a, with the links below level k.
pub record Stands (w : List ℕ) (m a k : ℕ) (v : Visitor) : Type 0 where
  pub stands : Standing w m a (length (nodes w a)) k v.slot.0 v.rank.0
  pub base : v.base ≡ base_of m v.slot.0

-- The walk for target t from there, through the stages k and below: the rank after which the key is or would be, and the comparisons.
abbrev pub end_from : List ℕ → ℕ → ℕ → ℕ → Visitor → ℕ
end_from w a t k v = v.rank.0 + ends k t (drop v.rank.0 (nodes w a))

abbrev pub tally_from : List ℕ → ℕ → ℕ → ℕ → Visitor → ℕ
tally_from w a t k v = tally k t (drop v.rank.0 (nodes w a))

-- A walk for target t that leads to rank E by T comparisons, of `allowance` that it may make: it stands at slot s of rank r, with n of them left and
-- the stages k and below to come, which lead there by what T leaves.
pub record Midway (w : List ℕ) (m a t E T allowance k s r n : ℕ) : Type 0 where
  pub stands : Standing w m a (length (nodes w a)) k s r
  pub rank : r + ends k t (drop r (nodes w a)) ≡ E
  pub left : allowance + tally k t (drop r (nodes w a)) ≡ n + T

-- The walk that began at `from`, at stage j, has come to v, and the stages k and below are to come.
pub record Carries (w : List ℕ) (m a t j : ℕ) (from : Visitor) (k : ℕ) (v : Visitor) : Type 0 where
  pub midway : Midway w m a t (end_from w a t j from) (tally_from w a t j from) from.left k v.slot.0 v.rank.0 v.left
  pub base : v.base ≡ base_of m v.slot.0

-- All levels are done; or the walk would have needed more comparisons than it may make.
abbrev pub Down : List ℕ → ℕ → ℕ → ℕ → ℕ → Visitor → Option Visitor → Type 0
Down w m a t j from (Some v) = Carries w m a t j from 0 v
Down w m a t j from None = from.left < tally_from w a t j from

-- It has ended at slot s of rank r, with n comparisons left; `met` says whether on the key.
pub record Arrived (w : List ℕ) (m a t E T allowance : ℕ) (met : Bool) (s r n : ℕ) : Type 0 where
  pub stands : Standing w m a (length (nodes w a)) 0 s r
  pub is : key_is t (drop E (nodes w a)) ≡ met
  pub rank : r ≡ cond met (suc E) E
  pub left : allowance ≡ n + T

abbrev Ended : List ℕ → ℕ → ℕ → ℕ → ℕ → Visitor → Bool → Visitor → Type 0
Ended w m a t j from met v = Arrived w m a t (end_from w a t j from) (tally_from w a t j from) from.left met v.slot.0 v.rank.0 v.left

abbrev pub WalkedOn : List ℕ → ℕ → ℕ → ℕ → ℕ → Visitor → Option Walked → Type 0
WalkedOn w m a t j from (Some (Found v)) = Ended w m a t j from true v
WalkedOn w m a t j from (Some (Missing v)) = Ended w m a t j from false v
WalkedOn w m a t j from None = from.left < tally_from w a t j from
