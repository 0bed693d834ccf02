-- `shift_feed::feed` meets its contract: after so many bytes the call has gone on by them.
use lib.ListN.{take}
use Rattle.model.specs.Calls.{CheckPromise}
use Rattle.shift_feed.specs.Feeds.{fed, Goes}
use Rattle.shift_feed.proofs.feed.Given as goal

abbrev pub invariant-loop-i : goal.invariant-loop-i
invariant-loop-i l = Goes (λ s. fed s (take l.i l.bytes)) l.initial.desk l.initial.w l.w l.desk × CheckPromise l.w l.passes
