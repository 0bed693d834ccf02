-- `link_check::records::Records::cell` meets its contract: the record lies in the words.
use Rattle.link_check.proofs.InShape.{cell_in_shape}
use Rattle.link_check.proofs.records.Records.cell.Goals as goal

pub cell-requires : goal.cell-requires
cell-requires c = cell_in_shape c.args.self.shape c.requires.s_bound c.requires.c_bound
