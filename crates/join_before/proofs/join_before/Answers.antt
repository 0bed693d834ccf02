-- `join_before::join_before` meets its contract: the links are done, the words of head a are read, and the columns 3, 2 and 0 make the whole.
use native.Mathlib.Omega.{arith}
use Rattle.join.proofs.JoinLinks.{count_cell, count_is}
use Rattle.join_before.proofs.BeforeColumns.{next_cells, count_fits, before-done}
use Rattle.join_before.proofs.join_before.Goals as goal

pub cell-n-requires : goal.cell-n-requires
cell-n-requires c =
    count_cell c.requires.0

pub before_links-requires-clause-n_value : goal.before_links-requires-clause-n_value
before_links-requires-clause-n_value c = count_is c.requires.0 c.cell-n.ensures

pub before_next-requires : goal.before_next-requires
before_next-requires c =
    next_cells c.requires.0 c.before_links.ensures c.requires.1.end c.put.auto.w

pub overflow_add-n : goal.overflow_add-n
overflow_add-n c =
    let p = c.requires.0 in
    omega (arith, count_fits p c.before_links.ensures (count_is p c.cell-n.ensures) c.cell-more.ensures)

pub returns : goal.returns
returns c =
    let p = c.requires.0 in
    before-done p c.before_links.ensures c.requires.1.end (count_is p c.cell-n.ensures) c.cell-more.ensures c.cell-first.ensures
    c.put.ensures c.before_next.ensures c.put2.ensures
