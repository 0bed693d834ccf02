-- `arena_check::free::free_ok` meets its contract. The loop's invariant: the free chain is right exactly when what is left of it is.
use Rattle.std.proofs.Common.{rules}
use native.Mathlib.Omega.{arith}
use Rattle.arena_check.proofs.FreeWalk.{free_next, not_free, free_decided}
use Rattle.arena_check.proofs.free.free_ok.Goals as goal

pub loop-left-preserved : goal.loop-left-preserved
loop-left-preserved c =
    free_next c.loop-left.invariant (omega arith) c.free_node.ensures c.if-not-free_node.false c.cell.ensures

pub returns-then-not-free_node : goal.returns-then-not-free_node
returns-then-not-free_node c =
    not_free c.loop-left.invariant (omega arith) c.free_node.ensures c.if-not-free_node.true

pub returns : goal.returns
returns c = free_decided c.loop-left.invariant (omega arith) _ (search rules)
