-- Where a walk stands in words that pass, and the precursors that it notes. Rests on model's specs.
use Rattle.std.specs.Prelude.{ℕ, suc, ◌≤◌, ◌<◌, ◌≡◌, ◌≢◌, List, length, take, get_or}
use Rattle.model.specs.Nodes.{slot_at, height_at}
use Rattle.model.specs.Closed.{last}
use Rattle.model.specs.Passes.{decode, nodes, Passes}
use Rattle.arena.specs.declared.Slot.{Slot}
use Rattle.arena.specs.declared.Rank.{Rank}
use Rattle.arena.specs.declared.Path.{Path}

-- The words pass, m is their number of levels, and a is a list of theirs.
pub record Listed (w : List ℕ) (m a : ℕ) : Type 0 where
  pub passes : Passes w
  pub levels : m ≡ (decode w).levels
  pub list : a < length (decode w).lists

-- The same of two lists, a and b, that differ.
pub record TwoLists (w : List ℕ) (m a b : ℕ) : Type 0 where
  pub first : Listed w m a
  pub second : Listed w m b
  pub apart : a ≢ b

-- The node at index i of list a is there, so that it can go.
pub record NodeThere (w : List ℕ) (m a i : ℕ) : Type 0 where
  pub listed : Listed w m a
  pub index : i < length (nodes w a)

-- Slot s is at rank r of list a, and has the links below h.
pub record Owner (w : List ℕ) (a r s h : ℕ) : Type 0 where
  pub passes : Passes w
  pub list : a < length (decode w).lists
  pub within : r ≤ length (nodes w a)
  pub slot_is : s ≡ slot_at a (nodes w a) r
  pub tall : h ≤ height_at (decode w).levels (nodes w a) r
  pub level : h ≤ (decode w).levels

-- The slot, and the rank, that is noted for level l.
abbrev pub slot_in : List Slot → ℕ → ℕ
slot_in slots l = (get_or slots l (record { 0 = 0 })).0

abbrev pub rank_in : List Rank → ℕ → ℕ
rank_in ranks l = (get_or ranks l (record { 0 = 0 })).0

-- The precursors of index i: of each level the last owner of a greater height with rank at most i.
pub record Before (w : List ℕ) (m a i : ℕ) (slots : List Slot) (ranks : List Rank) : Type 0 where
  pub rank : (l : ℕ) → l < m → rank_in ranks l ≡ last (suc l) (take i (nodes w a))
  pub slot : (l : ℕ) → l < m → slot_in slots l ≡ slot_at a (nodes w a) (rank_in ranks l)

-- The path notes the precursors of index i, and the slot of rank i.
pub record Leads (w : List ℕ) (m a i : ℕ) (p : Path) : Type 0 where
  pub before : Before w m a i p.slots p.ranks
  pub end : p.end.0 ≡ slot_at a (nodes w a) i
