-- `precursors::ord_index_mut::find` meets its contract.
-- The invariant: the walk stands no further than the number of smaller keys, and the precursors of the levels above are noted. The measure: stages
-- and ranks left.
use mathlib.Core.Path.{refl, ◌∙◌}
use native.Mathlib.Omega.{arith}
use Rattle.arena.proofs.Deciding.{yes, no}
use Rattle.walk.proofs.Standing.{length_most, lowered, link_here}
use Rattle.walk.proofs.Ahead.{key_cell}
use Rattle.walk.proofs.Noting.{noted-none, noted_more}
use Rattle.precursors.proofs.Tracing.{begun-at_head, stops_here, bound_here, far_on, goes_there}
use Rattle.precursors.proofs.ord_index_mut.find.Goals as goal

pub loop-stage-init : goal.loop-stage-init
loop-stage-init c =
    (begun-at_head _ refl refl refl c.args.list.listed, c.base_of-base.ensures, noted-none (refl, refl))

pub target_in-to-requires : goal.target_in-to-requires
target_in-to-requires c =
    let z = c.loop-stage-test.true in
    (z, omega (arith, (link_here c.loop-stage.invariant.0.stands c.loop-stage.invariant.1 z).inside))

pub goes_below-requires : goal.goes_below-requires
goes_below-requires c =
    let g = c.loop-stage.invariant.0 in
    let k = link_here g.stands c.loop-stage.invariant.1 c.loop-stage-test.true in
    λ ne. key_cell g.stands (c.target_in-to.ensures ∙ k.target) ne

pub loop-stage-preserved-then-not-goes_below : goal.loop-stage-preserved-then-not-goes_below
loop-stage-preserved-then-not-goes_below c =
    let inv = c.loop-stage.invariant in
    let z = c.loop-stage-test.true in
    let to = c.target_in-to.ensures ∙ (link_here inv.0.stands inv.1 z).target in
    let n = no c.goes_below.ensures c.if-not-goes_below.true in (
      record { stands = lowered inv.0.stands _ (omega arith); bound = bound_here inv.0 to n },
      inv.1,
      noted_more z (stops_here inv.0 to n).sought inv.2,
    )

pub distance_in-requires : goal.distance_in-requires
distance_in-requires c =
    let z = c.loop-stage-test.true in
    (z, (link_here c.loop-stage.invariant.0.stands c.loop-stage.invariant.1 z).inside)

pub plus-v-requires : goal.plus-v-requires
plus-v-requires c =
    let inv = c.loop-stage.invariant in
    let k = link_here inv.0.stands inv.1 c.loop-stage-test.true in
    let y = yes c.goes_below.ensures c.if-not-goes_below.false in
    let there = goes_there inv.0 (c.target_in-to.ensures ∙ k.target) y (c.distance_in.ensures ∙ k.distance) refl in
    omega (arith, length_most there, there.owner.within)

pub loop-stage-smaller : goal.loop-stage-smaller
loop-stage-smaller c =
    let inv = c.loop-stage.invariant in
    let k = link_here inv.0.stands inv.1 c.loop-stage-test.true in
    let to = c.target_in-to.ensures ∙ k.target in
    let y = yes c.goes_below.ensures c.if-not-goes_below.false in
    let d = c.distance_in.ensures ∙ k.distance in
    let there = goes_there inv.0 to y d c.plus-v.ensures in
    omega (arith, length_most there, there.owner.within, c.plus-v.ensures, d, far_on inv.0 to y)

pub loop-stage-preserved : goal.loop-stage-preserved
loop-stage-preserved c =
    let inv = c.loop-stage.invariant in
    let k = link_here inv.0.stands inv.1 c.loop-stage-test.true in
    let y = yes c.goes_below.ensures c.if-not-goes_below.false in
    let there = goes_there inv.0 (c.target_in-to.ensures ∙ k.target) y (c.distance_in.ensures ∙ k.distance) c.plus-v.ensures in
    (record { stands = there; bound = inv.0.bound }, c.base_of-base-in-loop-stage.ensures, inv.2)
