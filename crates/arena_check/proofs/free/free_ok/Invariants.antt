-- `arena_check::free::free_ok` meets its contract. The loop's invariant: the free chain is right exactly when what is left of it is.
use Rattle.arena_check.proofs.FreeWalk.{FreeAt}
use Rattle.arena_check.proofs.free.free_ok.Given as goal

abbrev pub invariant-loop-left : goal.invariant-loop-left
invariant-loop-left l = FreeAt l.records.words.now l.records.dims l.left l.at.0

abbrev pub decreases-loop-left : goal.decreases-loop-left
decreases-loop-left l = l.left
