-- `figures::answer` keeps its promise where the list is not there: row 3's refusal, on an arena that passes.
use borrow.Author.Rules.{rules}
use Rattle.std.proofs.lemmas.Result.{err_from_is_err_and}
use Rattle.figures.proofs.Promised.{whole, not_there}
use Rattle.figures.proofs.answer.Goals as goal

pub returns-in_err-m : goal.returns-in_err-m
returns-in_err-m c =
    let p = err_from_is_err_and c.from_residual-in_err-m.result c.from_residual-in_err-m.ensures.1 in
    rw (p.1, p.2) (whole c.check.ensures (search rules) (not_there c.args.w.now c.args.list.0 c.in_err-m.ensures))
