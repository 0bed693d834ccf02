-- `precursors::ord_index_mut::trace_next` meets its contract.
-- The invariant: in whichever list the walk began, it stands no further than the number of smaller keys, and its bound's key is not smaller.
-- The measure: ranks left.
use mathlib.Core.Path.{sym, ◌∙◌}
use native.Mathlib.Omega.{arith}
use borrow.Author.Tests.{eqb-true, eqb-false}
use Rattle.model.specs.Arena.{next_column}
use Rattle.arena.proofs.Deciding.{yes, no}
use Rattle.walk.proofs.Standing.{length_most, cell_here, next-cell}
use Rattle.walk.proofs.Ahead.{key_cell, next_one, else_below}
use Rattle.precursors.proofs.Tracing.{stops_here, goes_there, stopped, missing_absent, missing_greater, found_equal}
use Rattle.precursors.proofs.ord_index_mut.trace_next.Goals as goal

pub cell-requires : goal.cell-requires
cell-requires c =
    cell_here (c.loop-next.invariant _ c.requires).stands next_column (omega arith)

pub returns-then-eq : goal.returns-then-eq
returns-then-eq c =
    let g = c.loop-next.invariant _ c.requires in
    let to = c.cell.ensures ∙ next-cell g.stands in
    let k = stops_here g to (λ y. omega (arith, (eqb-true _ _ (sym c.if-eq.ensures)), y.0)) in
    stopped k (missing_absent k to (eqb-true _ _ (sym c.if-eq.ensures))) c.stop.ensures

pub key_at-met-requires : goal.key_at-met-requires
key_at-met-requires c =
    let g = c.loop-next.invariant _ c.requires in
    key_cell g.stands (c.cell.ensures ∙ next-cell g.stands) (eqb-false _ _ (sym c.if-eq.ensures))

pub returns-then-below : goal.returns-then-below
returns-then-below c =
    let g = c.loop-next.invariant _ c.requires in
    let to = c.cell.ensures ∙ next-cell g.stands in
    let y = yes c.below.ensures c.if-below.true in
    let k = stops_here g to (λ b. omega (arith, y, c.key_at-met.ensures, b.1)) in
    stopped k (missing_greater k to (eqb-false _ _ (sym c.if-eq.ensures)) c.key_at-met.ensures y) c.stop-then-below.ensures

pub returns-then-same : goal.returns-then-same
returns-then-same c =
    let g = c.loop-next.invariant _ c.requires in
    let to = c.cell.ensures ∙ next-cell g.stands in
    let y = yes c.same.ensures c.if-same.true in
    let k = stops_here g to (λ b. omega (arith, y, c.key_at-met.ensures, b.1)) in
    stopped k (found_equal k to (eqb-false _ _ (sym c.if-eq.ensures)) c.key_at-met.ensures y) c.stop-then-same.ensures

pub plus-v-requires : goal.plus-v-requires
plus-v-requires c =
    let g = c.loop-next.invariant _ c.requires in
    omega (arith, length_most g.stands, g.stands.owner.within)

pub loop-next-smaller : goal.loop-next-smaller
loop-next-smaller c =
    let g = c.loop-next.invariant _ c.requires in
    omega (arith, length_most g.stands, g.stands.owner.within, c.plus-v.ensures)

pub loop-next-preserved : goal.loop-next-preserved
loop-next-preserved c =
    λ a h.
    let g = c.loop-next.invariant a h in
    let to = c.cell.ensures ∙ next-cell g.stands in
    record {
      stands = goes_there g to (let below = else_below (no c.below.ensures c.if-below.false) (no c.same.ensures c.if-same.false) in
          (omega (arith, (eqb-false _ _ (sym c.if-eq.ensures))), rw c.key_at-met.ensures at below)) (next_one g.stands to (eqb-false _ _ (sym c.if-eq.ensures))) c.plus-v.ensures;
      bound = g.bound;
    }
