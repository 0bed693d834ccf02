-- `rank_walk::index_mut::seek_next` meets its contract.
-- The invariant: the walk stands in the list at the counted rank, no further than the limit.
use mathlib.Core.Path.{refl}
use native.Mathlib.Omega.{arith}
use Rattle.model.specs.Arena.{next_column}
use Rattle.walk.proofs.Standing.{cell_here}
use Rattle.rank_walk.proofs.Seeking.{steps}
use Rattle.rank_walk.proofs.index_mut.seek_next.Goals as goal

pub cell-requires : goal.cell-requires
cell-requires c =
    cell_here c.loop-rank.invariant next_column (omega arith)

pub loop-rank-preserved : goal.loop-rank-preserved
loop-rank-preserved c =
    steps c.loop-rank.invariant c.loop-rank-test.true _ _ c.cell.ensures refl
