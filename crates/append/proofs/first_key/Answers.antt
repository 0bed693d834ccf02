-- `append::first_key` meets its contract: the key of the node that the head names first.
use native.Mathlib.Omega.{arith}
use Rattle.merge.proofs.Ends.{head_cell, first-is, node-cell, node_word}
use Rattle.append.proofs.first_key.Goals as goal

pub cell-requires : goal.cell-requires
cell-requires c =
    head_cell c.args.list.listed 2 (omega arith)

pub key_at-requires : goal.key_at-requires
key_at-requires c =
    let p = c.args.list.listed in
    let some = c.requires in
    node-cell p some (first-is p some c.cell.ensures) 0 (omega arith)

pub returns : goal.returns
returns c =
    let p = c.args.list.listed in
    let some = c.requires in
    node_word p some (first-is p some c.cell.ensures) 0 (omega arith) c.key_at.ensures
