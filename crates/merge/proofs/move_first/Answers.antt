-- `merge::move_first` meets its contract: the removal leaves words that pass, with the slot free, and the insertion goes on from them.
use Rattle.merge.proofs.Merging.{low_enough, a-listed, slot_free, moved_is}
use Rattle.merge.proofs.move_first.Goals as goal

pub insert-requires : goal.insert-requires
insert-requires c =
    let (p, some) = c.requires in
    let height = rw (c.new.ensures.words, c.new.ensures.head) at c.first_height-height.ensures in
    let words = c.remove_at-key.ensures.0 in
    (a-listed p some words, (low_enough p some height, slot_free p some words))

pub returns : goal.returns
returns c =
    let (p, some) = c.requires in
    let height = rw (c.new.ensures.words, c.new.ensures.head) at c.first_height-height.ensures in
    let (words, key) = c.remove_at-key.ensures in
    moved_is p some words key height c.insert.ensures
