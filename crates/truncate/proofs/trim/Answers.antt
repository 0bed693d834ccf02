-- `truncate::trim` meets its contract: the list ends at the path, then the nodes behind are freed one by one, and the header says so.
use native.Mathlib.Omega.{arith}
use Rattle.truncate.proofs.Ending.{both_there, ended}
use Rattle.truncate.proofs.Freeing.{head_cell, count_is, end-cell, more_than, total_fits}
use Rattle.truncate.proofs.Freeing.{free_start, node_at, next-cell, free_turn, freed-all}
use Rattle.truncate.proofs.trim.Goals as goal

pub cell-count-requires : goal.cell-count-requires
cell-count-requires c =
    head_cell c.requires.0

pub cell-requires : goal.cell-requires
cell-requires c =
    end-cell c.requires.0 c.requires.1.end

pub end_chain-requires : goal.end_chain-requires
end_chain-requires c =
    both_there c.requires.0 c.requires.1.end c.end_links.ensures

pub cell-requires-in-loop : goal.cell-requires-in-loop
cell-requires-in-loop c =
    let p = c.requires.0 in
    let e = c.requires.1.end in
    let count = count_is p c.cell-count.ensures in
    let start = free_start p e c.cell.ensures c.header.ensures (ended p e c.end_links.ensures c.end_chain.ensures) in
    next-cell p (c.loop.invariant _ _ p count start) (omega arith)

pub free_node-requires : goal.free_node-requires
free_node-requires c =
    let p = c.requires.0 in
    let e = c.requires.1.end in
    let count = count_is p c.cell-count.ensures in
    let start = free_start p e c.cell.ensures c.header.ensures (ended p e c.end_links.ensures c.end_chain.ensures) in
    node_at p (c.loop.invariant _ _ p count start) (omega arith)

pub loop-preserved : goal.loop-preserved
loop-preserved c =
    λ v a p e g.
    free_turn p (c.loop.invariant v a p e g) (omega arith) c.cell-in-loop.ensures
    c.free_node.ensures c.free_node.auto.w

pub overflow_sub-count : goal.overflow_sub-count
overflow_sub-count c = more_than c.requires.0 c.cell-count.ensures

pub overflow_add-free : goal.overflow_add-free
overflow_add-free c =
    let l = total_fits c.requires.0 c.header-free.ensures c.cell-count.ensures in record { fits = omega (arith, l) }

pub returns : goal.returns
returns c =
    let p = c.requires.0 in
    let e = c.requires.1.end in
    let count = count_is p c.cell-count.ensures in
    let start = free_start p e c.cell.ensures c.header.ensures (ended p e c.end_links.ensures c.end_chain.ensures) in
    freed-all p (c.loop.invariant _ _ p count start) (omega arith) c.header-free.ensures c.cell-count.ensures
    (rw c.put_header.ensures at c.put_header-2.ensures)
