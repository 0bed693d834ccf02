-- `split::split_links` meets its contract: after l turns the links of the levels below l are as after the split.
use Prim.Native.Nat.{ℕ}
use mathlib.Core.Path.{◌≡◌}
use Rattle.arena.specs.Owners.{Before}
use Rattle.split.specs.Splits.{Splits}
use Rattle.split.proofs.SplitLinks.{SplitLevels}
use Rattle.split.proofs.split_links.Given as goal

abbrev pub invariant-loop-l : goal.invariant-loop-l
invariant-loop-l l =
    (a i : ℕ) → l.place.0 ≡ i → (p : Splits l.initial.w l.m a l.to.0 i) → Before l.initial.w l.m a i l.path.slots l.path.ranks → SplitLevels p l.l l.w
