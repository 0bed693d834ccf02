-- `visitor::index::IndexVisitorTraverse::traversed` meets its contract.
-- A target between its rank and the length is where the walk ends; otherwise it ends at the last node.
use Prim.Native.Nat.{ℕ}
use mathlib.Core.Path.{ap, ◌∙◌}
use mathlib.Core.Bool.{false}
use mathlib.Core.Logic.{inl, inr}
use native.Mathlib.Omega.{arith}
use Rattle.visitor.specs.Visited.{rank_at}
use Rattle.visitor.proofs.Ends.{visit_there, visit_past, visit_behind}
use Rattle.visitor.proofs.index.IndexVisitorTraverse.traversed.Goals as goal

pub returns-then-self-n-clause-visited : goal.returns-then-self-n-clause-visited
returns-then-self-n-clause-visited c =
    let n = rw (c.new.ensures.nodes) at c.length-n.ensures in
    c.ended.ensures ∙ visit_there c.args.w.now c.args.self c.if-self.true (omega (arith, n, c.if-self-n.true))

pub returns-else-self-clause-visited : goal.returns-else-self-clause-visited
returns-else-self-clause-visited c =
    let w = c.args.w.now in
    let v = c.args.self in
    let n = rw (c.new.ensures.nodes) at c.length-n.ensures in
    c.ended-else-self.ensures ∙ ap (λ (i : ℕ). rank_at w v i false) (c.before-else-self.ensures ∙ n)
    ∙ elim c.else-self.either [ inl l ↦ visit_past w v c.requires.before (omega (arith, n, l.1)) | inr l ↦ visit_behind w v l ]
