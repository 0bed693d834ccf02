-- `join::join_links` meets its contract: after l turns the links of the levels below l are as after the join.
use Prim.Native.Nat.{ℕ}
use mathlib.Core.Path.{◌≡◌}
use lib.ListN.{length}
use Rattle.model.specs.Passes.{nodes}
use Rattle.arena.specs.Owners.{Before}
use Rattle.join.specs.Joins.{Joins}
use Rattle.join.proofs.JoinLinks.{JoinLevels}
use Rattle.join.proofs.join_links.Given as goal

abbrev pub invariant-loop-l : goal.invariant-loop-l
invariant-loop-l l =
    (a : ℕ) (p : Joins l.initial.w l.m a l.from.0) → l.n ≡ length (nodes l.initial.w a) → Before l.initial.w l.m a (length (nodes l.initial.w a)) l.path.slots l.path.ranks → JoinLevels p l.l l.w
