-- `script_line::script::Script::run` ends: the turns that are left are the measure.
use Rattle.std.proofs.Common.{◌-◌, ◌≤◌}
use Rattle.script_line.proofs.script.Script.run.Given as goal

abbrev pub invariant-loop-turns : goal.invariant-loop-turns
invariant-loop-turns g l = l.turns ≤ 18446744073709551615

abbrev pub decreases-loop-turns : goal.decreases-loop-turns
decreases-loop-turns g l = 18446744073709551615 - l.turns
