-- `report::text` meets its contract, by the theorem on the calls together.
use Rattle.report.proofs.Onwards.{text-told}
use Rattle.report.proofs.text.Goals as goal

pub returns : goal.returns
returns c = text-told c.requires.0 c.requires.1 c.finish-last.ensures c.answer.ensures
