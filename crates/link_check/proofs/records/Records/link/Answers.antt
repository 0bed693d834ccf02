-- `link_check::records::Records::link` meets its contract: the link lies in the words.
use Rattle.link_check.proofs.InShape.{link_in_shape}
use Rattle.link_check.proofs.records.Records.link.Goals as goal

pub link_at-requires : goal.link_at-requires
link_at-requires c = link_in_shape c.args.self.shape c.requires.s_bound c.requires.l_lt_levels
