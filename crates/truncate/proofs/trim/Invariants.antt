-- `truncate::trim` meets its contract: the list ends at the path, then the nodes behind are freed one by one, and the header says so.
use Prim.Native.Nat.{ℕ}
use mathlib.Core.Path.{◌≡◌}
use mathlib.Core.List.{List}
use lib.ListN.{length}
use Rattle.model.specs.Passes.{nodes}
use Rattle.arena.specs.Owners.{NodeThere}
use Rattle.truncate.proofs.Freeing.{Freeing}
use Rattle.truncate.proofs.trim.Given as goal

abbrev pub invariant-loop : goal.invariant-loop
invariant-loop l =
    (v : List ℕ) (a : ℕ) (p : NodeThere v l.m a l.n.0) → l.count ≡ length (nodes v a) → Freeing p l.n.0 l.initial.s.0 l.initial.front.0 l.initial.w → Freeing p l.counter l.s.0 l.front.0 l.w
