-- `merge::merge` meets its contract: what is left to merge leads to the same; each turn moves one node.
use native.Mathlib.Omega.{arith}
use Rattle.merge.proofs.Merging.{one_fewer, merge_turn}
use Rattle.merge.proofs.merge.Goals as goal

pub loop-preserved : goal.loop-preserved
loop-preserved c =
    let (g, left) = c.loop.invariant in
    let most = rw (c.new.ensures.words, c.new.ensures.head) at c.length-end.ensures in (
      merge_turn g (omega (arith, most)) c.move_first.ensures,
      omega (arith, left, one_fewer g.lists (omega (arith, most)) c.move_first.ensures),
    )
