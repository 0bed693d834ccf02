-- `shift_feed::take` meets its contract: a reading that is stored, and one that is refused.
use mathlib.Core.Path.{sym, ◌∙◌}
use native.Mathlib.Omega.{arith}
use Rattle.shift_feed.proofs.Capping.{capped_more}
use Rattle.shift_feed.proofs.Taking.{reading-taken, reading-refused, still}
use Rattle.shift_feed.proofs.take.Goals as goal

pub returns-then-is_ok-clause-goes : goal.returns-then-is_ok-clause-goes
returns-then-is_ok-clause-goes c = rw c.new.ensures
    (reading-taken (sym c.parse.ensures ∙ c.in-Some.is) _ (sym c.is_ok.ensures.value ∙ c.if-is_ok.true) c.insert.ensures (omega arith))

pub returns-then-is_ok-clause-check_promise : goal.returns-then-is_ok-clause-check_promise
returns-then-is_ok-clause-check_promise c = still _ c.requires c.insert.ensures

pub returns-else-is_ok-clause-goes : goal.returns-else-is_ok-clause-goes
returns-else-is_ok-clause-goes c = rw (c.new.ensures, c.saturating_add.ensures, capped_more c.args.desk.skipped)
    (reading-refused (sym c.parse.ensures ∙ c.in-Some.is) _ (sym c.is_ok.ensures.value ∙ c.if-is_ok.false) c.insert.ensures)

pub returns-else-is_ok-clause-check_promise : goal.returns-else-is_ok-clause-check_promise
returns-else-is_ok-clause-check_promise c = still _ c.requires c.insert.ensures
