-- `middle::middle` meets its contract: the head's first word is the length, from which the lower index is computed and whether there is an upper one.
use mathlib.Core.Path.{◌∙◌}
use native.Mathlib.Omega.{arith}
use Rattle.model.specs.Arena.{key_column, next_column}
use Rattle.walk.proofs.Standing.{cell_here}
use Rattle.middle.proofs.Middles.{at_lower, at_upper, odd, even}
use Rattle.middle.proofs.middle.Goals as goal

pub key_at-lower-requires : goal.key_at-lower-requires
key_at-lower-requires c =
    cell_here (at_lower (c.args.list.listed, c.requires) c.length-n.ensures c.at-s.ensures) key_column (omega arith)

pub returns-then-n-eq1 : goal.returns-then-n-eq1
returns-then-n-eq1 c =
    (c.sum.ensures.0 ∙ odd (c.args.list.listed, c.requires) c.length-n.ensures c.at-s.ensures c.if-n-eq1.true c.key_at-lower.ensures, c.sum.ensures.1)

pub cell-next-requires : goal.cell-next-requires
cell-next-requires c =
    cell_here (at_lower (c.args.list.listed, c.requires) c.length-n.ensures c.at-s.ensures) next_column (omega arith)

pub key_at-upper-requires : goal.key_at-upper-requires
key_at-upper-requires c =
    cell_here (at_upper (c.args.list.listed, c.requires) c.length-n.ensures c.at-s.ensures c.if-n-eq1.false c.cell-next.ensures) key_column (omega arith)

pub returns : goal.returns
returns c =
    (c.sum-2.ensures.0 ∙ even (c.args.list.listed, c.requires) c.length-n.ensures c.at-s.ensures c.if-n-eq1.false c.cell-next.ensures c.key_at-lower.ensures c.key_at-upper.ensures, c.sum-2.ensures.1)
