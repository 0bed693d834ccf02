-- `truncate::end_links` meets its contract: after l turns the links of the levels below l are those of the shortened list.
use Prim.Native.Nat.{ℕ}
use mathlib.Core.List.{List}
use Rattle.model.specs.Arena.{to_column}
use Rattle.arena.specs.Owners.{Before, NodeThere}
use Rattle.arena.specs.declared.Rank.{Rank}
use Rattle.truncate.proofs.Ending.{ChainEnded}
use Rattle.truncate.proofs.end_links.Given as goal

abbrev pub invariant-loop-l : goal.invariant-loop-l
invariant-loop-l l =
    (a n : ℕ) (p : NodeThere l.initial.w l.m a n) (ranks : List Rank) → Before l.initial.w l.m a n l.path.slots ranks → ChainEnded p (to_column 0) (to_column l.l) l.w
