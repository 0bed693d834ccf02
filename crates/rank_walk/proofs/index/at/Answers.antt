-- `rank_walk::index::at` meets its contract: the walk from the head to the rank of the index.
use mathlib.Core.Path.{refl}
use native.Mathlib.Omega.{arith}
use Rattle.walk.proofs.Standing.{at-rank, length_most}
use Rattle.rank_walk.proofs.index.at.Goals as goal

pub from_index-requires : goal.from_index-requires
from_index-requires c =
    omega (arith, length_most (at-rank 0 c.args.list.listed (omega arith) refl), c.requires)
