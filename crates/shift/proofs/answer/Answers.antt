-- `shift::answer` meets its contract: too short a slice, an arena that does not pass, or the lines and the last line.
use Rattle.shift.proofs.Answering.{whole-report}
use Rattle.shift.proofs.answer.Goals as goal

pub returns : goal.returns
returns c =
    whole-report (c.check.ensures.sound c.if-not-check.false) c.if-out-lt-ROOM.false c.lines-at.ensures.0 c.last.ensures
