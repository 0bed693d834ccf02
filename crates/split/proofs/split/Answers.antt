-- `split::split` meets its contract: the links are done, the head's words are read, and the columns 3, 2 and 0 make the whole.
use mathlib.Core.Path.{refl}
use Rattle.split.proofs.SplitColumns.{end_cells, split_done}
use Rattle.split.proofs.split.Goals as goal

pub cell-first-requires : goal.cell-first-requires
cell-first-requires c =
    (end_cells c.requires.0 c.split_links.ensures c.requires.1.end refl).0

pub put2-requires-2 : goal.put2-requires-2
put2-requires-2 c =
    end_cells c.requires.0 c.split_links.ensures c.requires.1.end c.put2.auto.w

pub returns : goal.returns
returns c =
    split_done c.requires.0 c.split_links.ensures c.requires.1.end
    c.cell.ensures c.cell-first.ensures c.cell-2.ensures c.last_slot-kept.ensures c.last_slot-moved.ensures
    c.put2.ensures c.put2-2.ensures c.put2-3.ensures
