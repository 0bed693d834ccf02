-- `list_check::walks::walk_ok` meets its contract. The loop's invariant: the list is right exactly when what is left of it is.
use Prim.Native.Nat.{◌-◌}
use mathlib.Core.Path.{◌≡◌}
use Rattle.list_check.proofs.WalkSteps.{WalkAt}
use Rattle.list_check.proofs.walks.walk_ok.Given as goal

abbrev pub invariant-loop-index : goal.invariant-loop-index
invariant-loop-index l = record {
  records : l.pending.records ≡ l.records;
  walk : WalkAt l.records.words.now l.records.dims l.fn.a.0 (l.index-end - l.index) l.at.0 l.key l.last.0 l.index l.pending.slots l.pending.ranks;
}
