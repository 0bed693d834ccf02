-- `level_links::remove_links` meets its contract: after l turns the links of the levels below l are those of the new model.
use native.Mathlib.Omega.{arith}
use Rattle.level_links.proofs.RemoveLinks.{remove_start, rank_le, level_fits, remove_turn}
use Rattle.level_links.proofs.remove_links.Goals as goal

pub loop-l-init : goal.loop-l-init
loop-l-init c = λ a i e p q d. remove_start p

pub overflow_sub-back : goal.overflow_sub-back
overflow_sub-back c =
    let (p, q) = c.requires.node_there in
    let e = c.before-place.ensures in
    rank_le p q.before (c.loop-l.invariant _ _ e p q.before c.requires.node_is) (omega arith) e

pub remove_level-requires : goal.remove_level-requires
remove_level-requires c =
    let (p, q) = c.requires.node_there in
    let e = c.before-place.ensures in
    level_fits p q.before (c.loop-l.invariant _ _ e p q.before c.requires.node_is) (omega arith) e c.requires.node_is.slot

pub loop-l-preserved : goal.loop-l-preserved
loop-l-preserved c =
    λ a i e p q d. remove_turn p q (c.loop-l.invariant a i e p q d) (omega arith) e d.slot d.height c.remove_level.ensures
