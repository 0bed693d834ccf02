-- `draw::blocks::height_at` meets its contract: the node has a height.
use native.Mathlib.Omega.{arith}
use Rattle.draw.proofs.Drawing.{there, its_cell}
use Rattle.draw.proofs.blocks.height_at.Goals as goal

pub cell-h-requires : goal.cell-h-requires
cell-h-requires c =
    its_cell (there c.args.list.listed c.requires) c.at-s.ensures 1 (omega arith)
