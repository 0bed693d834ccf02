-- `damage::arenas::changed` keeps the length of the sample. The loop's invariant: no change alters it.
use Rattle.std.proofs.Common.{◌≡◌, length}
use Rattle.damage.proofs.arenas.changed.Given as goal

abbrev pub invariant-loop-change : goal.invariant-loop-change
invariant-loop-change l = length l.w ≡ 104
