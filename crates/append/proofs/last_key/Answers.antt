-- `append::last_key` meets its contract: the key of the node that the head names last.
use native.Mathlib.Omega.{arith}
use Rattle.merge.proofs.Ends.{head_cell, last-is, node-cell, last_key_is}
use Rattle.append.proofs.last_key.Goals as goal

pub cell-requires : goal.cell-requires
cell-requires c =
    head_cell c.args.list.listed 3 (omega arith)

pub key_at-requires : goal.key_at-requires
key_at-requires c =
    let p = c.args.list.listed in
    let some = c.requires in
    node-cell p (omega (arith, some)) (last-is p some c.cell.ensures) 0 (omega arith)

pub returns : goal.returns
returns c =
    let p = c.args.list.listed in
    let some = c.requires in
    last_key_is p some (last-is p some c.cell.ensures) c.key_at.ensures
