-- `level_links::insert_links` meets its contract: after l turns the links of the levels below l are those of the new model.
use Prim.Native.Nat.{ℕ}
use mathlib.Core.Path.{◌≡◌}
use lib.ListN.{take}
use Rattle.model.specs.Passes.{decode}
use Rattle.arena.specs.Owners.{Before}
use Rattle.arena.proofs.Relink.{Relinked}
use Rattle.level_links.specs.AtIndex.{inserted_at, CanInsert}
use Rattle.level_links.proofs.insert_links.Given as goal

abbrev pub invariant-loop-l : goal.invariant-loop-l
invariant-loop-l l =
    (a i : ℕ) → l.place.0 ≡ i → CanInsert l.initial.w l.m a i l.key l.height → Before l.initial.w l.m a i l.slots l.ranks
    → Relinked (decode l.initial.w) (inserted_at (decode l.initial.w) a i l.key l.height) (take 8 l.initial.w) l.m l.l l.w
