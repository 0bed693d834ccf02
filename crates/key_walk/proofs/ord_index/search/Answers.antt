-- `key_walk::ord_index::search` meets its contract: the walk from the head, at the stage of all levels, is the whole walk.
use native.Mathlib.Omega.{arith}
use Rattle.key_walk.proofs.Answering.{answers_beyond, answers_ended}
use Rattle.key_walk.proofs.ord_index.search.Goals as goal

pub returns-in-Some-Found : goal.returns-in-Some-Found
returns-in-Some-Found c =
    answers_ended _ _ c.args.list.listed (rw (c.in-Some-Found.is, c.in-Some-Found.field-0-is, c.at-from.ensures) at c.walk.ensures) _ (omega (arith, c.to_index.ensures))

pub returns-in-Some-Missing : goal.returns-in-Some-Missing
returns-in-Some-Missing c =
    answers_ended _ _ c.args.list.listed (rw (c.in-Some-Missing.is, c.in-Some-Missing.field-0-is, c.at-from.ensures) at c.walk.ensures) _ c.after.ensures

pub returns-in-None : goal.returns-in-None
returns-in-None c =
    answers_beyond _ _ c.args.list.listed (rw (c.in-None.is, c.at-from.ensures) at c.walk.ensures)
