-- `levelling::level` meets its contract: after i turns the first i nodes are levelled, and the path leads to index i.
use mathlib.Core.Path.{refl}
use native.Mathlib.Omega.{arith}
use Rattle.levelling.proofs.EveryNode.{cell_count, all-levelled, can_relevel, level_start, level_turn}
use Rattle.levelling.proofs.level.Goals as goal

pub cell-n-requires : goal.cell-n-requires
cell-n-requires c =
    cell_count c.requires

pub loop-i-init : goal.loop-i-init
loop-i-init c =
    level_start c.requires c.cell-n.ensures refl refl refl

pub relevel-path-requires : goal.relevel-path-requires
relevel-path-requires c =
    can_relevel c.loop-i.invariant (omega arith) _ c.height_of-h.ensures

pub loop-i-preserved : goal.loop-i-preserved
loop-i-preserved c =
    level_turn c.loop-i.invariant (omega arith) c.from_index.ensures c.height_of-h.ensures
    c.relevel-path.ensures c.relevel-path.auto.w

pub returns : goal.returns
returns c =
    all-levelled c.loop-i.invariant (omega arith)
