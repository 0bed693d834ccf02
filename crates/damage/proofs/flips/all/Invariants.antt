-- `damage::flips::all` is safe. The loop's invariant: at most 32 flips of each word passed.
use Rattle.std.proofs.Common.{◌*◌, ◌≤◌}
use Rattle.damage.proofs.flips.all.Given as goal

abbrev pub invariant-loop-at : goal.invariant-loop-at
invariant-loop-at g l = l.total ≤ 32 * l.at
