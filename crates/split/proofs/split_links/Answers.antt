-- `split::split_links` meets its contract: after l turns the links of the levels below l are as after the split.
use native.Mathlib.Omega.{arith}
use Rattle.level_links.proofs.AfterLinks.{links_done}
use Rattle.split.proofs.SplitLinks.{no_level, rank_le, both_links, next_level}
use Rattle.split.proofs.split_links.Goals as goal

pub loop-l-init : goal.loop-l-init
loop-l-init c = λ a i e p q. no_level p

pub overflow_sub-by : goal.overflow_sub-by
overflow_sub-by c =
    let p = c.requires.0 in
    let q = c.requires.1.before in
    let e = c.before-place.ensures in
    rank_le p q (c.loop-l.invariant _ _ e p q) (omega arith) e

pub split_level-requires : goal.split_level-requires
split_level-requires c =
    let p = c.requires.0 in
    let q = c.requires.1.before in
    let e = c.before-place.ensures in
    both_links p q (c.loop-l.invariant _ _ e p q) (omega arith) e

pub loop-l-preserved : goal.loop-l-preserved
loop-l-preserved c =
    λ a i e p q. next_level p q (c.loop-l.invariant a i e p q) (omega arith) e c.split_level.ensures

pub returns : goal.returns
returns c =
    links_done (c.loop-l.invariant _ _ c.before-place.ensures c.requires.0 c.requires.1.before) (omega arith) (omega arith)
