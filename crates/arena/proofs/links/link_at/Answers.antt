-- `arena::links::link_at` reads the words of the link one by one.
use Rattle.std.proofs.Common.{refl}
use Rattle.model.specs.Cells.{cell_at}
use Rattle.arena.proofs.links.link_at.Goals as goal

pub returns : goal.returns
unfolding cell_at
returns c = rw c.base_of-base.ensures refl
