-- `arena::words::cell` reads a column of a record.
use Rattle.model.specs.Cells.{cell_at}
use Rattle.arena.proofs.words.cell.Goals as goal

pub returns : goal.returns
unfolding cell_at
returns c = cc
