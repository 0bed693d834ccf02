-- `key_walk::ord_index::follow` meets its contract.
-- The invariant: in whichever list the walk began, the last stage leads where it leads from there, with its tally. The measure: comparisons left.
use mathlib.Core.Path.{sym, ◌∙◌}
use native.Mathlib.Omega.{arith}
use borrow.Author.Tests.{eqb-true, eqb-false}
use Rattle.arena.proofs.Deciding.{yes, no}
use Rattle.walk.proofs.Standing.{length_most, next_here, key_inside, key_read}
use Rattle.walk.proofs.Ahead.{key_cell, next_one, else_below}
use Rattle.key_walk.proofs.Answering.{over, go_there, ends-absent, ends_greater, ends_equal}
use Rattle.key_walk.proofs.ord_index.follow.Goals as goal

pub word-requires : goal.word-requires
word-requires c =
    let v = c.loop-to.invariant _ c.requires in
    (next_here v.midway.stands v.base).inside

pub returns-then-eq : goal.returns-then-eq
returns-then-eq c =
    let v = c.loop-to.invariant _ c.requires in
    let to = c.word.ensures ∙ (next_here v.midway.stands v.base).target in
    ends-absent v.midway _ to (eqb-true _ _ (sym c.if-eq.ensures))

pub returns-then-u-eq0 : goal.returns-then-u-eq0
returns-then-u-eq0 c =
    let v = c.loop-to.invariant _ c.requires in
    let to = c.word.ensures ∙ (next_here v.midway.stands v.base).target in
    over v.midway _ to (eqb-false _ _ (sym c.if-eq.ensures)) c.if-u-eq0.true

pub key_in-met-requires : goal.key_in-met-requires
key_in-met-requires c =
    let v = c.loop-to.invariant _ c.requires in
    let to = c.word.ensures ∙ (next_here v.midway.stands v.base).target in
    key_inside _ _ _ c.base_of-there.ensures (key_cell v.midway.stands to (eqb-false _ _ (sym c.if-eq.ensures)))

pub returns-then-below : goal.returns-then-below
returns-then-below c =
    let v = c.loop-to.invariant _ c.requires in
    let to = c.word.ensures ∙ (next_here v.midway.stands v.base).target in
    ends_greater v.midway _ to (eqb-false _ _ (sym c.if-eq.ensures)) c.if-u-eq0.false _ (key_read _ _ _ c.base_of-there.ensures c.key_in-met.ensures)
    (yes c.below.ensures c.if-below.true)

pub plus-u-requires : goal.plus-u-requires
plus-u-requires c =
    let v = c.loop-to.invariant _ c.requires in
    omega (arith, length_most v.midway.stands, v.midway.stands.before)

pub returns-then-same : goal.returns-then-same
returns-then-same c =
    let v = c.loop-to.invariant _ c.requires in
    let to = c.word.ensures ∙ (next_here v.midway.stands v.base).target in
    ends_equal v.midway _ to (eqb-false _ _ (sym c.if-eq.ensures)) c.if-u-eq0.false _ (key_read _ _ _ c.base_of-there.ensures c.key_in-met.ensures)
    (yes c.same.ensures c.if-same.true) _ c.plus-u.ensures

pub loop-to-preserved : goal.loop-to-preserved
loop-to-preserved c =
    let met-below = else_below (no c.below.ensures c.if-below.false) (no c.same.ensures c.if-same.false) in
    λ a g.
    let v = c.loop-to.invariant a g in
    let to = c.word.ensures ∙ (next_here v.midway.stands v.base).target in
    let go = go_there v.midway _ to (eqb-false _ _ (sym c.if-eq.ensures)) c.if-u-eq0.false _ (key_read _ _ _ c.base_of-there.ensures c.key_in-met.ensures) met-below in
    record { midway = go (next_one v.midway.stands to (eqb-false _ _ (sym c.if-eq.ensures))) c.plus-u.ensures; base = c.base_of-there.ensures }
