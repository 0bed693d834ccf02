-- `insertion::insert_before` meets its contract: the words read are those of the model, and the links, the chain and the header make the new one.
use native.Mathlib.Omega.{arith}
use Rattle.insertion.proofs.InsertBefore.{cell_free, cell_head, count_fits, cell-end, chain_lies, insert-done}
use Rattle.insertion.proofs.insert_before.Goals as goal

pub cell-requires : goal.cell-requires
cell-requires c =
    cell_free c.requires.0 c.header.ensures

pub cell-n-requires : goal.cell-n-requires
cell-n-requires c =
    cell_head c.requires.0 0 (omega arith)

pub cell-requires-2 : goal.cell-requires-2
cell-requires-2 c =
    cell-end c.requires.0 c.requires.1.end

pub cell-requires-3 : goal.cell-requires-3
cell-requires-3 c =
    cell_head c.requires.0 3 (omega arith)

pub overflow_add-head : goal.overflow_add-head
overflow_add-head c =
    omega (arith, count_fits c.requires.0 c.cell-n.ensures)

pub put_chain-requires : goal.put_chain-requires
put_chain-requires c =
    chain_lies c.requires.0 c.requires.1.end c.insert_links.ensures c.header.ensures

pub returns : goal.returns
returns c =
    insert-done c.requires.0 c.requires.1.end c.insert_links.ensures
    (record {
      slot = c.header.ensures;
      number = c.header-free.ensures;
      next_free = c.cell.ensures;
      count = c.cell-n.ensures;
      next_end = c.cell-2.ensures;
      old_last = c.cell-3.ensures;
      new_last = c.last_with-last.ensures;
    })
    c.put_chain.ensures c.put_free.ensures
