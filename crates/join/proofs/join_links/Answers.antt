-- `join::join_links` meets its contract: after l turns the links of the levels below l are as after the join.
use native.Mathlib.Omega.{arith}
use Rattle.level_links.proofs.AfterLinks.{links_done}
use Rattle.join.proofs.JoinLinks.{no_level, rank_le, level_joins, next_level}
use Rattle.join.proofs.join_links.Goals as goal

pub loop-l-init : goal.loop-l-init
loop-l-init c = λ a p en q. no_level p

pub overflow_sub-by : goal.overflow_sub-by
overflow_sub-by c =
    rank_le c.requires.joins.0 c.requires.n_value c.requires.joins.1.before (omega arith)

pub join_level-requires : goal.join_level-requires
join_level-requires c =
    let p = c.requires.joins.0 in
    let q = c.requires.joins.1.before in
    level_joins p c.requires.n_value q (omega arith) (c.loop-l.invariant _ p c.requires.n_value q)

pub loop-l-preserved : goal.loop-l-preserved
loop-l-preserved c =
    λ a p en q. next_level p en q (omega arith) (c.loop-l.invariant a p en q) c.join_level.ensures

pub returns : goal.returns
returns c =
    links_done (c.loop-l.invariant _ c.requires.joins.0 c.requires.n_value c.requires.joins.1.before) (omega arith) (omega arith)
