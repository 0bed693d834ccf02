-- `join_before::before_links` meets its contract: after l turns the links of the levels below l are as after the join before.
use lib.ListN.{take}
use Rattle.model.specs.Passes.{decode}
use Rattle.arena.proofs.Relink.{Relinked}
use Rattle.join_before.specs.Preceded.{do_join_before}
use Rattle.join_before.proofs.before_links.Given as goal

abbrev pub invariant-loop-l : goal.invariant-loop-l
invariant-loop-l l = Relinked (decode l.initial.w) (do_join_before (decode l.initial.w) l.a.0 l.b.0) (take 8 l.initial.w) l.m l.l l.w
