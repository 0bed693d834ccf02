-- `visitor::ord_index::OrdIndexVisitorTraverse::traversed` meets its contract.
-- A visitor that has found its key is given back; otherwise it is where the walk on from its slot ends.
use mathlib.Core.Path.{◌∙◌}
use Rattle.visitor.proofs.Ends.{visit_ends, visit_over}
use Rattle.visitor.proofs.ord_index.OrdIndexVisitorTraverse.traversed.Goals as goal

pub returns-in-Some-Found-clause-visited : goal.returns-in-Some-Found-clause-visited
returns-in-Some-Found-clause-visited c =
    let z = rw (c.in-Some-Found.is, c.in-Some-Found.field-0-is, c.at-from.ensures, c.new.ensures.words, c.new.ensures.levels, c.new.ensures.head) at c.walk.ensures in
    visit_ends c.args.w.now c.args.self c.if-self.false z c.ended.ensures

pub returns-in-Some-Missing-clause-visited : goal.returns-in-Some-Missing-clause-visited
returns-in-Some-Missing-clause-visited c =
    let z = rw (c.in-Some-Missing.is, c.in-Some-Missing.field-0-is, c.at-from.ensures, c.new.ensures.words, c.new.ensures.levels, c.new.ensures.head) at c.walk.ensures in
    visit_ends c.args.w.now c.args.self c.if-self.false z c.ended-in-Some-Missing.ensures

pub returns-in-None-clause-visited : goal.returns-in-None-clause-visited
returns-in-None-clause-visited c =
    let z = rw (c.in-None.is, c.at-from.ensures, c.new.ensures.nodes) at c.walk.ensures in
    c.out.ensures ∙ visit_over c.args.w.now c.args.self c.if-self.false z
