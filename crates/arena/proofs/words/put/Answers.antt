-- `arena::words::put` writes a column of a record.
use Rattle.model.specs.Cells.{put_at}
use Rattle.arena.proofs.words.put.Goals as goal

pub returns : goal.returns
unfolding put_at
returns c = cc
