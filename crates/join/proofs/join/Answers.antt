-- `join::join` meets its contract: the links are done, the words of the second head are read, and the columns 3, 2 and 0 make the whole.
use native.Mathlib.Omega.{arith}
use Rattle.join.proofs.JoinLinks.{count_cell, count_is}
use Rattle.join.proofs.JoinColumns.{end_cells, count_fits, join-done}
use Rattle.join.proofs.join.Goals as goal

pub cell-n-requires : goal.cell-n-requires
cell-n-requires c =
    count_cell c.requires.0

pub join_links-requires-clause-n_value : goal.join_links-requires-clause-n_value
join_links-requires-clause-n_value c = count_is c.requires.0 c.cell-n.ensures

pub put2-requires-2 : goal.put2-requires-2
put2-requires-2 c =
    end_cells c.requires.0 c.join_links.ensures c.requires.1.end c.put2.auto.w

pub overflow_add-n : goal.overflow_add-n
overflow_add-n c =
    let p = c.requires.0 in
    omega (arith, count_fits p c.join_links.ensures (count_is p c.cell-n.ensures) c.cell-more.ensures)

pub returns : goal.returns
returns c =
    let p = c.requires.0 in
    join-done p c.join_links.ensures c.requires.1.end (count_is p c.cell-n.ensures)
    c.cell-more.ensures c.cell-first.ensures c.cell-last.ensures
    c.put2.ensures c.put2-2.ensures c.put2-3.ensures
