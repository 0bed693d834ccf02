-- `link_check::pending::Pending::fill` meets its contract. The loop's invariant: the node is the owner of the levels passed.
use mathlib.Core.Path.{◌≡◌}
use Rattle.link_check.specs.LevelLinks.{filled}
use Rattle.link_check.proofs.pending.Pending.fill.Given as goal

abbrev pub invariant-loop-l : goal.invariant-loop-l
invariant-loop-l l = record {
  records : l.self.records ≡ l.initial.self.records;
  slots : l.self.slots ≡ filled l.l l.s.0 l.initial.self.slots;
  ranks : l.self.ranks ≡ filled l.l l.r.0 l.initial.self.ranks;
}
