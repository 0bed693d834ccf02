-- `script_line::script::Script::feed` meets its contract: the line is that of the bytes so far.
use Rattle.std.proofs.Common.{◌≡◌, take}
use Rattle.script_line.specs.Scripts.{fed}
use Rattle.script_line.proofs.script.Script.feed.Given as goal

abbrev pub invariant-loop-b : goal.invariant-loop-b
invariant-loop-b g l = l.self.line ≡ fed g.row.N l.initial.self.line (take l.b-index l.bytes)
