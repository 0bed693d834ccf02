-- `key_walk::ord_index::descend` meets its contract.
-- The invariant: in whichever list the walk began, the stages still to come lead where it leads from there, with its tally. The measure: stages and
-- comparisons left.
use mathlib.Core.Path.{refl, sym, ◌∙◌}
use native.Mathlib.Omega.{arith}
use borrow.Author.Tests.{eqb-true, eqb-false}
use Rattle.arena.proofs.Deciding.{yes, no}
use Rattle.walk.proofs.Standing.{length_most, link_here, key_inside, key_read}
use Rattle.walk.proofs.Ahead.{key_cell}
use Rattle.key_walk.proofs.Answering.{down-absent, over, down-other, go_there}
use Rattle.key_walk.proofs.ord_index.descend.Goals as goal

pub target_in-to-requires : goal.target_in-to-requires
target_in-to-requires c =
    let v = c.loop-stage.invariant _ c.requires in
    let z = c.loop-stage-test.true in
    (z, omega (arith, (link_here v.midway.stands v.base z).inside))

pub loop-stage-preserved-then-eq : goal.loop-stage-preserved-then-eq
loop-stage-preserved-then-eq c =
    λ a g.
    let v = c.loop-stage.invariant a g in
    let z = c.loop-stage-test.true in
    let k = link_here v.midway.stands v.base z in
    record { midway = down-absent v.midway _ (c.target_in-to.ensures ∙ k.target) (eqb-true _ _ (sym c.if-eq.ensures)) z; base = v.base }

pub returns-then-v-eq0 : goal.returns-then-v-eq0
returns-then-v-eq0 c =
    let v = c.loop-stage.invariant _ c.requires in
    let z = c.loop-stage-test.true in
    let k = link_here v.midway.stands v.base z in
    over v.midway _ (c.target_in-to.ensures ∙ k.target) (eqb-false _ _ (sym c.if-eq.ensures)) c.if-v-eq0.true

pub key_in-met-requires : goal.key_in-met-requires
key_in-met-requires c =
    let v = c.loop-stage.invariant _ c.requires in
    let z = c.loop-stage-test.true in
    let k = link_here v.midway.stands v.base z in
    key_inside _ _ _ c.base_of-there.ensures (key_cell v.midway.stands (c.target_in-to.ensures ∙ k.target) (eqb-false _ _ (sym c.if-eq.ensures)))

pub loop-stage-preserved-then-not-below : goal.loop-stage-preserved-then-not-below
loop-stage-preserved-then-not-below c =
    λ a g.
    let v = c.loop-stage.invariant a g in
    let z = c.loop-stage-test.true in
    let k = link_here v.midway.stands v.base z in
    let to = c.target_in-to.ensures ∙ k.target in
    let met = key_read _ _ _ c.base_of-there.ensures c.key_in-met.ensures in
    let n = no c.below.ensures c.if-not-below.true in
    record { midway = down-other v.midway _ to (eqb-false _ _ (sym c.if-eq.ensures)) c.if-v-eq0.false _ met n z; base = v.base }

pub distance_in-requires : goal.distance_in-requires
distance_in-requires c =
    let v = c.loop-stage.invariant _ c.requires in
    let z = c.loop-stage-test.true in
    (z, (link_here v.midway.stands v.base z).inside)

pub plus-v-requires : goal.plus-v-requires
plus-v-requires c =
    let v = c.loop-stage.invariant _ c.requires in
    let z = c.loop-stage-test.true in
    let k = link_here v.midway.stands v.base z in
    let to = c.target_in-to.ensures ∙ k.target in
    let go = go_there v.midway _ to (eqb-false _ _ (sym c.if-eq.ensures)) c.if-v-eq0.false _ (key_read _ _ _ c.base_of-there.ensures c.key_in-met.ensures)
    (yes c.below.ensures c.if-not-below.false) in
    omega (arith, length_most v.midway.stands, (go (c.distance_in.ensures ∙ k.distance) refl).stands.before)

pub loop-stage-preserved : goal.loop-stage-preserved
loop-stage-preserved c =
    λ a g.
    let v = c.loop-stage.invariant a g in
    let z = c.loop-stage-test.true in
    let k = link_here v.midway.stands v.base z in
    let to = c.target_in-to.ensures ∙ k.target in
    let go = go_there v.midway _ to (eqb-false _ _ (sym c.if-eq.ensures)) c.if-v-eq0.false _ (key_read _ _ _ c.base_of-there.ensures c.key_in-met.ensures)
    (yes c.below.ensures c.if-not-below.false) in
    record { midway = go (c.distance_in.ensures ∙ k.distance) c.plus-v.ensures; base = c.base_of-there.ensures }
