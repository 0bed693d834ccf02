-- `removal::remove_after` meets its contract: the words read are those of the model, and the links, the chain and the header make the new one.
use mathlib.Core.Path.{refl, ◌∙◌}
use native.Mathlib.Omega.{arith}
use Rattle.removal.proofs.RemoveAfter.{cell_head, place_fits, some_there, free_fits, cell-end, node-is, cell_out, word_out, chain_lies, remove_done}
use Rattle.removal.proofs.remove_after.Goals as goal

pub cell-requires : goal.cell-requires
cell-requires c =
    cell-end c.requires.0 c.requires.1.end

pub key_at-key-requires : goal.key_at-key-requires
key_at-key-requires c =
    cell_out c.requires.0 c.requires.1.end c.cell.ensures 0 (omega arith)

pub cell-height-requires : goal.cell-height-requires
cell-height-requires c =
    cell_out c.requires.0 c.requires.1.end c.cell.ensures 1 (omega arith)

pub cell-requires-2 : goal.cell-requires-2
cell-requires-2 c =
    cell_out c.requires.0 c.requires.1.end c.cell.ensures 2 (omega arith)

pub cell-n-requires : goal.cell-n-requires
cell-n-requires c =
    cell_head c.requires.0 0 (omega arith)

pub cell-requires-3 : goal.cell-requires-3
cell-requires-3 c =
    cell_head c.requires.0 3 (omega arith)

pub last_without-last-requires : goal.last_without-last-requires
last_without-last-requires c =
    omega (arith, place_fits c.requires.0)

pub remove_links-requires-clause-node_is : goal.remove_links-requires-clause-node_is
remove_links-requires-clause-node_is c =
    let (p, leads) = c.requires in
    node-is p leads.end c.cell.ensures c.cell-height.ensures refl

pub overflow_sub-head : goal.overflow_sub-head
overflow_sub-head c =
    omega (arith, some_there c.requires.0 c.cell-n.ensures)

pub put_chain-requires : goal.put_chain-requires
put_chain-requires c =
    chain_lies c.requires.0 c.requires.1.end c.remove_links.ensures c.cell.ensures

pub overflow_add-free : goal.overflow_add-free
overflow_add-free c =
    omega (arith, free_fits c.requires.0 c.header-free.ensures)

pub returns : goal.returns
returns c =
    let (p, leads) = c.requires in
    let o = c.cell.ensures in (
      remove_done p leads.end c.remove_links.ensures
          (record {
            slot = o;
            next_node = c.cell-2.ensures;
            count = c.cell-n.ensures;
            old_last = c.cell-3.ensures;
            new_last = c.last_without-last.ensures;
            first_free_lem = c.header.ensures;
            number = c.header-free.ensures;
          })
          c.put_chain.ensures c.put_free.ensures,
      c.key_at-key.ensures ∙ word_out p leads.end o 0 (omega arith),
    )
