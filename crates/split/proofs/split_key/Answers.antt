-- `split::split_key` meets its contract: the walk by key leads to the number of smaller keys.
use native.Mathlib.Omega.{arith}
use Rattle.model.specs.Passes.{nodes}
use Rattle.model.proofs.Walk.{smaller_le}
use Rattle.split.proofs.split_key.Goals as goal

pub split-requires : goal.split-requires
split-requires c =
    let lists = c.requires.0 in
    let trail = rw (c.new.ensures.words, c.new.ensures.levels, c.new.ensures.head) at c.find-trail.ensures in
    let within = smaller_le c.args.key (nodes c.args.w.now c.args.from.0) in (
      record { from = lists.first; to = lists.second; apart = lists.apart; empty = c.requires.1; within = omega (arith, trail.place, within) },
      rw trail.place trail.leads,
    )
