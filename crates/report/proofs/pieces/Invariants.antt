-- `report::pieces` meets its contract and ends: what was read so far was fed, and what is left to count is the measure.
use Prim.Native.Nat.{◌-◌}
use Rattle.shift_feed.specs.Feeds.{empty}
use Rattle.report.specs.Texts.{Onward}
use Rattle.report.proofs.pieces.Given as goal

abbrev pub invariant-loop-spent : goal.invariant-loop-spent
invariant-loop-spent g l = Onward l.spent empty l.initial.words l.desk l.words

abbrev pub decreases-loop-spent : goal.decreases-loop-spent
decreases-loop-spent g l = 18446744073709551615 - l.spent
