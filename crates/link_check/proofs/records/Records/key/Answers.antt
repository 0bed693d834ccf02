-- `link_check::records::Records::key` meets its contract: the record lies in the words.
use native.Mathlib.Omega.{arith}
use Rattle.link_check.proofs.InShape.{cell_in_shape}
use Rattle.link_check.proofs.records.Records.key.Goals as goal

pub key_at-requires : goal.key_at-requires
key_at-requires c = cell_in_shape c.args.self.shape c.requires (omega arith)
