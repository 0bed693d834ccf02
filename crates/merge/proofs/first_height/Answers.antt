-- `merge::first_height` meets its contract: the height of the node that the head names first.
use native.Mathlib.Omega.{arith}
use Rattle.merge.proofs.Ends.{head_cell, first-is, node-cell, node_word}
use Rattle.merge.proofs.first_height.Goals as goal

pub cell-requires : goal.cell-requires
cell-requires c =
    head_cell c.args.list.listed 2 (omega arith)

pub cell-requires-2 : goal.cell-requires-2
cell-requires-2 c =
    let p = c.args.list.listed in
    let some = c.requires in
    node-cell p some (first-is p some c.cell.ensures) 1 (omega arith)

pub returns : goal.returns
returns c =
    let p = c.args.list.listed in
    let some = c.requires in
    node_word p some (first-is p some c.cell.ensures) 1 (omega arith) c.cell-2.ensures
