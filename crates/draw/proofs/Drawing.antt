-- Where the words stand that a picture shows: those of the node at an index, and the link of a precursor. Rests on walk's Standing.
use Prim.Native.Nat.{ℕ, suc, ◌≤◌, ◌<◌}
use mathlib.Core.Path.{◌≡◌, refl}
use mathlib.Core.List.{List}
use lib.ListN.{length, take}
use lib.Seq.{length-take-le}
use native.Mathlib.Omega.{arith}
use Rattle.model.specs.Nodes.{slot_at}
use Rattle.model.specs.Arena.{width, far_column}
use Rattle.model.specs.Cells.{Cell}
use Rattle.model.specs.Passes.{nodes}
use Rattle.model.proofs.Walk.{last_le}
use Rattle.arena.specs.Linked.{LinkIn}
use Rattle.arena.specs.Owners.{slot_in, rank_in, Listed, NodeThere, Leads}
use Rattle.arena.specs.declared.Path.{Path}
use Rattle.walk.specs.Standing.{Standing}
use Rattle.walk.proofs.Standing.{at-rank, length_most, cell_here}

link_in : {w : List ℕ} {m a i h s r l : ℕ} → Standing w m a i h s r → l < m → LinkIn w m s l
link_in {l = l} g k =
    let far = cell_here g (far_column l) (omega arith) in
    record { small = far.small; level = k; inside = far.inside }

pub few_keys : {w : List ℕ} {m a : ℕ} → Listed w m a → length (nodes w a) ≤ 65535
few_keys g = omega (arith, length_most (at-rank 0 g (omega arith) refl))

pub there : {w : List ℕ} {m a i : ℕ} → Listed w m a → i < length (nodes w a) → NodeThere w m a i
there g k = record { listed = g; index = k }

module _ {w : List ℕ} {m a i : ℕ} (g : NodeThere w m a i) where
  module _ {s : ℕ} (e : s ≡ slot_at a (nodes w a) (suc i)) where
    pub its_cell : (c : ℕ) → c < width m → Cell w m s c
    its_cell = cell_here (at-rank (suc i) g.listed (omega (arith, g.index)) e)

    pub its_link : {l : ℕ} → l < m → LinkIn w m s l
    its_link = link_in (at-rank (suc i) g.listed (omega (arith, g.index)) e)

module _ {w : List ℕ} {m a i : ℕ} {p : Path} (g : Listed w m a) (k : i ≤ length (nodes w a)) (t : Leads w m a i p) {l : ℕ} (j : l < m) where
  pub rank-before : rank_in p.ranks l ≤ i
  rank-before = omega (arith, t.before.rank l j, last_le (suc l) (take i (nodes w a)), length-take-le i (nodes w a) k)

  pub link_before_lem : LinkIn w m (slot_in p.slots l) l
  link_before_lem = link_in (at-rank (rank_in p.ranks l) g (omega (arith, rank-before)) (t.before.slot l j)) j
