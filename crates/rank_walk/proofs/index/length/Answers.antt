-- `rank_walk::index::length` meets its contract: the head's first word is the length.
use mathlib.Core.Path.{refl, ◌∙◌}
use native.Mathlib.Omega.{arith}
use Rattle.model.specs.Arena.{count_column}
use Rattle.walk.proofs.Standing.{at-rank, cell_here, length_here}
use Rattle.rank_walk.proofs.index.length.Goals as goal

pub cell-requires : goal.cell-requires
cell-requires c =
    cell_here (at-rank 0 c.args.list.listed (omega arith) refl) count_column (omega arith)

pub returns : goal.returns
returns c =
    c.cell.ensures ∙ length_here c.args.list.listed
