-- `shift_feed::feed` meets its contract: after so many bytes the call has gone on by them.
use Rattle.shift_feed.proofs.Feeding.{byte-fed, all-fed}
use Rattle.shift_feed.proofs.feed.Goals as goal

pub loop-i-preserved : goal.loop-i-preserved
loop-i-preserved c =
    (byte-fed _ _ c.loop-i-test.true c.loop-i.invariant.0 c.byte-desk.ensures.goes, c.byte-desk.ensures.check_promise)

pub returns : goal.returns
returns c =
    all-fed _ _ c.loop-i-test.false c.loop-i.invariant.0
