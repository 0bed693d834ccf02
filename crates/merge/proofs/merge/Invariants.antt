-- `merge::merge` meets its contract: what is left to merge leads to the same; each turn moves one node.
use Prim.Native.Nat.{◌+◌}
use mathlib.Core.Path.{◌≡◌}
use lib.ListN.{length}
use Rattle.model.specs.Passes.{nodes}
use Rattle.merge.proofs.Merging.{Merging}
use Rattle.merge.proofs.merge.Given as goal

abbrev pub invariant-loop : goal.invariant-loop
invariant-loop l =
    Merging l.initial.w l.m l.a.0 l.b.0 l.w × (l.counter + length (nodes l.w l.b.0) ≡ length (nodes l.initial.w l.b.0))
