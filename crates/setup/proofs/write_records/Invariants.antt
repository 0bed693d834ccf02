-- `setup::write_records` meets its contract: a record a turn.
use Rattle.setup.specs.NewRecords.{FirstNew}
use Rattle.setup.proofs.write_records.Given as goal

abbrev pub invariant-loop-s : goal.invariant-loop-s
invariant-loop-s l = FirstNew l.l l.m l.n l.initial.w l.s l.w
