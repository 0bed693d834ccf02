-- `draw::blocks::distance_at` is safe: the node has a link of every level.
use Rattle.draw.proofs.Holding.{far_here}
use Rattle.draw.proofs.Drawing.{there, its_link}
use Rattle.draw.proofs.blocks.distance_at.Goals as goal

pub link_at-requires : goal.link_at-requires
link_at-requires c =
    its_link (there c.args.list.listed c.requires.0) c.at-s.ensures c.requires.1

pub returns : goal.returns
returns c =
    far_here (there c.args.list.listed c.requires.0) c.requires.1 c.at-s.ensures c.link_at.result c.link_at.ensures
