-- `setup::write_record` meets its contract. The loop's invariant: the links of the levels passed are written, whatever the front is.
use Rattle.model.specs.Arena.{to_column}
use Rattle.setup.specs.NewRecords.{bare_record, Written}
use Rattle.setup.specs.declared.Front.{Front}
use Rattle.setup.proofs.write_record.Given as goal

abbrev pub invariant-loop-l : goal.invariant-loop-l
invariant-loop-l l = (f : Front) → Written l.m l.initial.w l.s.0 (bare_record l.m f) (to_column 0) (to_column l.l) l.w
