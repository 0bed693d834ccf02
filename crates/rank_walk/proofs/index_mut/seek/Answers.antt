-- `rank_walk::index_mut::seek` meets its contract.
-- The invariant: the walk stands no further than the limit, and the precursors of the levels above are noted. The measure: stages and ranks left.
use mathlib.Core.Path.{◌∙◌}
use native.Mathlib.Omega.{arith}
use Rattle.arena.proofs.Deciding.{yes, no}
use Rattle.walk.proofs.Standing.{lowered, link_here}
use Rattle.walk.proofs.Noting.{noted_more}
use Rattle.rank_walk.proofs.Seeking.{ends_here, follows}
use Rattle.rank_walk.proofs.index_mut.seek.Goals as goal

pub distance_in-far-requires : goal.distance_in-far-requires
distance_in-far-requires c =
    let z = c.loop-stage-test.true in
    (z, (link_here c.loop-stage.invariant.0 c.loop-stage.invariant.1 z).inside)

pub loop-stage-preserved-then-not-can_follow : goal.loop-stage-preserved-then-not-can_follow
loop-stage-preserved-then-not-can_follow c =
    let g = c.loop-stage.invariant.0 in
    let z = c.loop-stage-test.true in
    let k = link_here g c.loop-stage.invariant.1 z in
    let n = no c.can_follow.ensures c.if-not-can_follow.true in
    let s = ends_here g (c.distance_in-far.ensures ∙ k.distance) n in
    (lowered g _ (omega arith), c.loop-stage.invariant.1, noted_more z s c.loop-stage.invariant.2)

pub loop-stage-preserved : goal.loop-stage-preserved
loop-stage-preserved c =
    let g = c.loop-stage.invariant.0 in
    let k = link_here g c.loop-stage.invariant.1 c.loop-stage-test.true in
    let n = yes c.can_follow.ensures c.if-not-can_follow.false in
    let on = follows g (c.distance_in-far.ensures ∙ k.distance) n (c.target_in-to.ensures ∙ k.target) c.plus.ensures in
    (on, c.base_of-base-in-loop-stage.ensures, c.loop-stage.invariant.2)
