-- `rank_walk::index::read` meets its contract: the slot at the index holds the key there.
use mathlib.Core.Path.{refl, ◌∙◌}
use native.Mathlib.Omega.{arith}
use Rattle.model.specs.Arena.{key_column}
use Rattle.walk.proofs.Standing.{at-rank, cell_here, key_here}
use Rattle.rank_walk.proofs.index.read.Goals as goal

pub key_at-requires : goal.key_at-requires
key_at-requires c =
    cell_here (at-rank _ c.args.list.listed c.requires c.at.ensures) key_column (omega arith)

pub returns : goal.returns
returns c =
    c.key_at.ensures ∙ key_here (at-rank _ c.args.list.listed c.requires c.at.ensures) _ refl
