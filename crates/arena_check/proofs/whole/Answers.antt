-- `arena_check::whole` meets its contract: the tests one after the other.
use mathlib.Core.Path.{refl, sym, ◌∙◌}
use borrow.Author.Tests.{both_ways, eqb-true}
use Rattle.arena_check.proofs.WholeTests.{whole-decided}
use Rattle.arena_check.proofs.whole.Goals.{then-counted-records, else-counted-records, then-free_ok, else-free_ok}
use Rattle.arena_check.proofs.whole.Goals as goal

pub returns-then-lists_ok : goal.returns-then-lists_ok
returns-then-lists_ok c = elim c.if-free_ok.branch [
  | then-free_ok u ↦ elim c.if-counted-records.branch [
    | then-counted-records t ↦
        whole-decided c.in-Some.ensures c.counted.ensures refl t.if-counted-records.true t.free_ok.ensures (sym t.value-is ∙ u.if-free_ok.true)
        u.lists_ok.ensures (sym u.value-is ∙ c.if-lists_ok.true) c.lasts_apart.ensures
    | else-counted-records t ↦ absurd (t.if-counted-records.false (eqb-true _ _ (sym t.value-is ∙ u.if-free_ok.true)))
  ]
  | else-free_ok u ↦ absurd (both_ways _ (u.value-is ∙ u.if-free_ok.false) c.if-lists_ok.true)
]
