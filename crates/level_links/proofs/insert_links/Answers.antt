-- `level_links::insert_links` meets its contract: after l turns the links of the levels below l are those of the new model.
use mathlib.Core.Path.{refl}
use native.Mathlib.Omega.{arith}
use Rattle.level_links.proofs.InsertLinks.{insert_start, rank_le, level_fits, insert_turn}
use Rattle.level_links.proofs.insert_links.Goals as goal

pub loop-l-init : goal.loop-l-init
loop-l-init c = λ a i e p q. insert_start p

pub overflow_sub-back : goal.overflow_sub-back
overflow_sub-back c =
    let (p, q) = c.requires.can_insert in
    let e = c.before-place.ensures in
    rank_le p q.before (c.loop-l.invariant _ _ e p q.before) (omega arith) e

pub insert_level-requires : goal.insert_level-requires
insert_level-requires c =
    let (p, q) = c.requires.can_insert in
    let e = c.before-place.ensures in
    level_fits p q.before (c.loop-l.invariant _ _ e p q.before) (omega arith) e c.requires.o_value

pub loop-l-preserved : goal.loop-l-preserved
loop-l-preserved c =
    λ a i e p q. insert_turn p q (c.loop-l.invariant a i e p q) (omega arith) e c.requires.o_value refl c.insert_level.ensures
