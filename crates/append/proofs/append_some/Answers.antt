-- `append::append_some` meets its contract: each case rests on the comparisons that led to it, in document 01's order.
use Rattle.append.proofs.Appending.{at_most, can_join, can_precede}
use Rattle.append.proofs.append_some.Goals as goal

pub follow-requires : goal.follow-requires
follow-requires c =
    let first = rw (c.new-from.ensures.nodes) at c.first_key.ensures in
    let last = rw (c.new-onto.ensures.nodes) at c.last_key.ensures in
    can_join c.requires.two_lists c.requires.nonzero.0 c.requires.nonzero.1 (at_most c.below.ensures first last c.if-not-below.true)

pub precede-requires : goal.precede-requires
precede-requires c =
    let first = rw (c.new-onto.ensures.nodes) at c.first_key-2.ensures in
    let last = rw (c.new-from.ensures.nodes) at c.last_key-2.ensures in
    can_precede c.requires.two_lists c.requires.nonzero.0 c.requires.nonzero.1 (at_most c.below-2.ensures first last c.if-not-below-2.true)
