-- `link_check::pending::Pending::fill` meets its contract. The loop's invariant: the node is the owner of the levels passed.
use native.Mathlib.Omega.{arith}
use mathlib.Core.Path.{◌≡◌, refl}
use Rattle.link_check.proofs.OwnersFilled.{fill_none, fill_more, owner_set}
use Rattle.link_check.proofs.pending.Pending.fill.Goals as goal

pub loop-l-init : goal.loop-l-init
loop-l-init c = record { records = refl; slots = fill_none _ _; ranks = fill_none _ _ }

pub invariant_of-self : goal.invariant_of-self
invariant_of-self c =
    let p = c.loop-l.self in
    record { owners = owner_set _ _ p.owners p.records.shape.ranges.levels_most (rw c.loop-l.invariant.records c.requires.slot) }

pub loop-l-preserved : goal.loop-l-preserved
loop-l-preserved c = record {
  records = c.loop-l.invariant.records;
  slots = fill_more _ _ _ _ c.loop-l.invariant.slots;
  ranks = fill_more _ _ _ _ c.loop-l.invariant.ranks;
}

pub returns-clause-slots : goal.returns-clause-slots
returns-clause-slots c = let e : c.args.h ≡ c.loop-l.l = omega arith in rw e c.loop-l.invariant.slots

pub returns-clause-ranks : goal.returns-clause-ranks
returns-clause-ranks c = let e : c.args.h ≡ c.loop-l.l = omega arith in rw e c.loop-l.invariant.ranks
