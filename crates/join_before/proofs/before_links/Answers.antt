-- `join_before::before_links` meets its contract: after l turns the links of the levels below l are as after the join before.
use native.Mathlib.Omega.{arith}
use Rattle.join_before.proofs.BeforeLinks.{no_level, b_link_in, next_level}
use Rattle.join.proofs.JoinLinks.{rank_le, level_joins}
use Rattle.join_before.proofs.before_links.Goals as goal

pub loop-l-init : goal.loop-l-init
loop-l-init c = no_level c.requires.joins.0

pub overflow_sub-by : goal.overflow_sub-by
overflow_sub-by c =
    rank_le c.requires.joins.0 c.requires.n_value c.requires.joins.1.before (omega arith)

pub before_level-requires : goal.before_level-requires
before_level-requires c =
    let p = c.requires.joins.0 in
    let q = c.requires.joins.1.before in
    let g = c.loop-l.invariant in
    (level_joins p c.requires.n_value q (omega arith) g, b_link_in p c.requires.n_value q (omega arith) g)

pub loop-l-preserved : goal.loop-l-preserved
loop-l-preserved c =
    next_level c.requires.joins.0 c.requires.n_value c.requires.joins.1.before (omega arith) c.loop-l.invariant c.before_level.ensures
