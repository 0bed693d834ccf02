-- `list_check::walks::walk_ok` meets its contract. The loop's invariant: the list is right exactly when what is left of it is.
use native.Mathlib.Omega.{arith}
use mathlib.Core.Path.{sym, ◌∙◌}
use borrow.Author.Tests.{both_ways, eqb-true, eqb-false}
use Rattle.arena.proofs.Deciding.{yes}
use Rattle.list_check.proofs.WalkSteps.{walk_start, walk_next, wrong_node, list-goes-on, other_last, walk_decided}
use Rattle.list_check.proofs.walks.walk_ok.Goals.{then-eq, else-eq}
use Rattle.list_check.proofs.walks.walk_ok.Goals as goal

pub loop-index-init : goal.loop-index-init
loop-index-init c = record {
  records = c.new-pending.ensures.records;
  walk = walk_start (omega (arith, c.requires.a_bound, c.cell-index-end.ensures)) (rw c.new-pending.ensures.records at c.new-pending.result.owners) (omega (arith, c.cell-index-end.ensures)) c.cell.ensures c.new-pending.ensures.slots c.new-pending.ensures.ranks;
}

pub returns-then-not-node_ok : goal.returns-then-not-node_ok
returns-then-not-node_ok c =
    wrong_node c.loop-index.invariant.walk (omega arith) (rw c.loop-index.invariant.records at c.node_ok.ensures) c.if-not-node_ok.true

pub cell-requires-in-loop-index-clause-s_bound : goal.cell-requires-in-loop-index-clause-s_bound
cell-requires-in-loop-index-clause-s_bound c =
    (yes (rw c.loop-index.invariant.records at c.node_ok.ensures) c.if-not-node_ok.false).slot.below

pub fill-requires-clause-height : goal.fill-requires-clause-height
fill-requires-clause-height c =
    let e = c.loop-index.invariant.records in
    rw e (omega (arith, (yes (rw e at c.node_ok.ensures) c.if-not-node_ok.false).low))

pub key-key-requires : goal.key-key-requires
key-key-requires c =
    (yes (rw c.loop-index.invariant.records at c.node_ok.ensures) c.if-not-node_ok.false).slot.below

pub cell-requires-in-loop-index-2-clause-s_bound : goal.cell-requires-in-loop-index-2-clause-s_bound
cell-requires-in-loop-index-2-clause-s_bound c =
    (yes (rw c.loop-index.invariant.records at c.node_ok.ensures) c.if-not-node_ok.false).slot.below

pub loop-index-preserved : goal.loop-index-preserved
loop-index-preserved c = record {
  records = c.fill.ensures.records ∙ c.loop-index.invariant.records;
  walk = walk_next c.loop-index.invariant.walk (omega arith) (rw c.loop-index.invariant.records at c.node_ok.ensures) c.if-not-node_ok.false
      c.cell-in-loop-index.ensures c.fill.ensures.slots c.fill.ensures.ranks c.key-key.ensures c.cell-in-loop-index-2.ensures
      (rw (c.fill.ensures.records ∙ c.loop-index.invariant.records) at c.fill.new.self.owners);
}

pub returns-then-eq-2 : goal.returns-then-eq-2
returns-then-eq-2 c = elim c.if-eq.branch [
  | then-eq w ↦
      walk_decided c.loop-index.invariant.walk (omega arith) (eqb-true _ _ (sym c.eq.ensures ∙ w.if-eq.true)) c.cell-2.ensures
      (eqb-true _ _ (sym w.eq-then-eq.ensures ∙ sym w.value-is ∙ c.if-eq-2.true)) (rw c.loop-index.invariant.records at c.absent.ensures)
  | else-eq w ↦ absurd (both_ways _ (w.value-is ∙ w.if-eq.false) c.if-eq-2.true)
]

pub returns-else-eq-2 : goal.returns-else-eq-2
returns-else-eq-2 c = rw c.if-eq-2.false (elim c.if-eq.branch [
  | then-eq w ↦
      other_last c.loop-index.invariant.walk (omega arith) c.cell-2.ensures
      (eqb-false _ _ (sym w.eq-then-eq.ensures ∙ sym w.value-is ∙ c.if-eq-2.false))
  | else-eq w ↦ list-goes-on c.loop-index.invariant.walk (omega arith) (eqb-false _ _ (sym c.eq.ensures ∙ w.if-eq.false))
])
