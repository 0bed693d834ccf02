-- `arena_check::header::counted` meets its contract. The loop's invariant: the sum of the free count and of the lengths of the heads passed.
use Rattle.arena_check.proofs.HeadTests.{Counted}
use Rattle.arena_check.proofs.header.counted.Given as goal

abbrev pub invariant-loop-a : goal.invariant-loop-a
invariant-loop-a l = Counted l.records.words.now l.records.dims l.sum l.a
