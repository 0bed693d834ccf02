-- `level_links::remove_links` meets its contract: after l turns the links of the levels below l are those of the new model.
use Prim.Native.Nat.{ℕ}
use mathlib.Core.Path.{◌≡◌}
use lib.ListN.{take}
use Rattle.model.specs.Calls.{do_remove}
use Rattle.model.specs.Passes.{decode}
use Rattle.arena.specs.Owners.{Before, NodeThere}
use Rattle.arena.proofs.Relink.{Relinked}
use Rattle.level_links.specs.AtIndex.{NodeIs}
use Rattle.level_links.proofs.remove_links.Given as goal

abbrev pub invariant-loop-l : goal.invariant-loop-l
invariant-loop-l l =
    (a i : ℕ) → l.place.0 ≡ i → NodeThere l.initial.w l.m a i → Before l.initial.w l.m a i l.slots l.ranks → NodeIs l.initial.w a i l.o.0 l.h
    → Relinked (decode l.initial.w) (do_remove (decode l.initial.w) a i) (take 8 l.initial.w) l.m l.l l.w
