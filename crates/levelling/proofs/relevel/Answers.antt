-- `levelling::relevel` meets its contract: the freed slot is the first free one, so that the node comes back in its slot.
use mathlib.Core.Path.{refl}
use native.Mathlib.Omega.{arith}
use Rattle.removal.proofs.RemoveAfter.{place_fits, cell-end, out_is}
use Rattle.levelling.proofs.OneNode.{leads_out, can_insert_again, as-levelled, relevelled}
use Rattle.levelling.proofs.relevel.Goals as goal

pub cell-requires : goal.cell-requires
cell-requires c =
    cell-end c.requires.there c.requires.leads.end

pub insert_before-requires : goal.insert_before-requires
insert_before-requires c =
    let p = c.requires in
    let (out, is_key) = c.remove_after-key.ensures in
    (can_insert_again p.there p.height out is_key, leads_out p.there p.height out p.leads)

pub from_index-requires : goal.from_index-requires
from_index-requires c =
    omega (arith, place_fits c.requires.there)

pub returns : goal.returns
returns c =
    let p = c.requires in
    let (out, is_key) = c.remove_after-key.ensures in
    let words = as-levelled p.there p.height out is_key c.insert_before.ensures in
    relevelled p.there p.height words p.leads (out_is p.there p.leads.end c.cell.ensures)
    c.from_index.ensures refl c.step_over.ensures
