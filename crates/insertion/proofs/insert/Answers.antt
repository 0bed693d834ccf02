-- `insertion::insert` meets its contract: the walk by key leads to the number of smaller keys, where the keys stay in order.
use Rattle.insertion.proofs.KeyPlace.{goes_in}
use Rattle.insertion.proofs.insert.Goals as goal

pub insert_before-requires : goal.insert_before-requires
insert_before-requires c =
    let trail = rw (c.new.ensures.words, c.new.ensures.levels, c.new.ensures.head) at c.find-trail.ensures in
    (goes_in c.requires.0 _ _ c.requires.1.1 trail.place c.requires.1.0, rw trail.place trail.leads)
