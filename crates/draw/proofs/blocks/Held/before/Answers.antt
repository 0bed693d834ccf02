-- `draw::blocks::Held::before` meets its contract: the precursor is a node of the list, or its head.
use Rattle.draw.proofs.Holding.{holds-before}
use Rattle.draw.proofs.Drawing.{link_before_lem}
use Rattle.draw.proofs.blocks.Held.before.Goals as goal

pub link_at-requires : goal.link_at-requires
link_at-requires c =
    link_before_lem c.args.list.listed c.requires.0 c.requires.1 c.requires.2

pub returns : goal.returns
returns c =
    holds-before c.args.list.listed c.requires.0 c.requires.1 c.requires.2 c.link_at.result c.link_at.ensures
