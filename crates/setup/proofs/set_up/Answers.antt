-- `setup::set_up` meets its contract: a slice that fits is filled record by record, then its header; any other is left alone.
use Rattle.arena.proofs.Deciding.{yes}
use Rattle.setup.proofs.Writing.{new_arena, set_up_accepted}
use Rattle.setup.proofs.set_up.Goals as goal

pub returns : goal.returns
returns c =
    let r = (yes c.fits.ensures c.if-not-fits.false) in
    set_up_accepted r (new_arena r c.write_records.ensures c.write_header.ensures)
