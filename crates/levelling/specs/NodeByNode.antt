-- Levelling, node by node: one node's new height, and the path that leads on. Rests on model's specs and on arena's Leads.
use Rattle.std.specs.Prelude.{ℕ, suc, ◌≤◌, ◌<◌, ◌≡◌, cond, List, ◌∷◌, ◌++◌, ltb, length, take, drop}
use Rattle.model.specs.Nodes.{node, at}
use Rattle.model.specs.Lists.{level_from}
use Rattle.model.specs.Arena.{State, list_of, put_list, encode}
use Rattle.model.specs.Passes.{decode}
use Rattle.arena.specs.Owners.{slot_in, rank_in, Leads, NodeThere}
use Rattle.arena.specs.declared.Path.{Path}

-- The node at index i of list a at height h; "slots and keys stay".
abbrev pub levelled_at : State → ℕ → ℕ → ℕ → State
levelled_at S a i h = let xs = list_of S a in put_list S a (take i xs ++ node (at xs i).slot (at xs i).key h ∷ drop (suc i) xs) S.free

-- The nodes from index i on levelled.
abbrev pub levelled_from : State → ℕ → ℕ → State
levelled_from S a i = let xs = list_of S a in put_list S a (take i xs ++ level_from S.levels (suc i) (drop i xs)) S.free

-- The arrays of a path have room for every level.
pub record Full (p : Path) : Type 0 where
  pub slots : length p.slots ≡ 16
  pub ranks : length p.ranks ≡ 16

-- A path that goes on over a node of height h and rank r in a slot: the node is the precursor of the levels below its height.
pub record SteppedOver (p : Path) (slot r h : ℕ) (q : Path) : Type 0 where
  pub slots : (l : ℕ) → l < 16 → slot_in q.slots l ≡ cond (ltb l h) slot (slot_in p.slots l)
  pub ranks : (l : ℕ) → l < 16 → rank_in q.ranks l ≡ cond (ltb l h) r (rank_in p.ranks l)
  pub end : q.end.0 ≡ slot
  pub full : Full q

-- The node at index i of list a can get height h; the path leads to it.
pub record CanRelevel (w : List ℕ) (m a i h : ℕ) (p : Path) : Type 0 where
  pub there : NodeThere w m a i
  pub leads : Leads w m a i p
  pub full : Full p
  pub height : h ≤ m

-- It has it, and the path leads to the next.
pub record Relevelled (before : List ℕ) (m a i h : ℕ) (after : List ℕ) (p : Path) : Type 0 where
  pub words : after ≡ encode (levelled_at (decode before) a i h)
  pub leads : Leads after m a (suc i) p
  pub full : Full p
