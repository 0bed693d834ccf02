-- `rank_walk::index::reach` meets its contract.
-- The invariant: the walk stands no further than the target. The measure: stages and ranks left.
use mathlib.Core.Path.{◌∙◌}
use Rattle.arena.proofs.Deciding.{yes}
use Rattle.walk.proofs.Standing.{link_here}
use Rattle.rank_walk.proofs.Seeking.{follows}
use Rattle.rank_walk.proofs.index.reach.Goals as goal

pub distance_in-far-requires : goal.distance_in-far-requires
distance_in-far-requires c =
    let z = c.loop-stage-test.true in
    (z, (link_here c.loop-stage.invariant.0 c.loop-stage.invariant.1 z).inside)

pub loop-stage-preserved : goal.loop-stage-preserved
loop-stage-preserved c =
    let g = c.loop-stage.invariant.0 in
    let k = link_here g c.loop-stage.invariant.1 c.loop-stage-test.true in
    let n = yes c.can_follow.ensures c.if-not-can_follow.false in
    (follows g (c.distance_in-far.ensures ∙ k.distance) n (c.target_in-to.ensures ∙ k.target) c.plus.ensures, c.base_of-base-in-loop-stage.ensures)
