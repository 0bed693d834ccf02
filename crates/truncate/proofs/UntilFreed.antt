-- Records of which some nodes are still to be freed: those nodes' records are the old ones, all others the new ones. Rests on specs/Truncation.
use Prim.Native.Nat.{ℕ, ◌≤◌, ◌<◌}
use mathlib.Core.Path.{◌≡◌, refl, sym, ap, ◌∙◌}
use mathlib.Core.Logic.{◌≢◌}
use mathlib.Core.List.{List, ◌∷◌}
use lib.ListN.{get_or}
use native.Mathlib.Omega.{arith}
use borrow.Author.Tests.{le-leb, lt-leb, ne_eqb}
use Rattle.model.specs.Arena.{State, record_of, slots_of}
use Rattle.model.specs.Nodes.{Node}
use Rattle.model.specs.Passes.{times}
use Rattle.model.proofs.Tests.{hit, miss, test}
use Rattle.truncate.specs.Truncation.{until_freed}

module _ (S T : State) where
  pub as_old : (ys : List Node) (s : ℕ) → 1 ≤ times s ys → until_freed S T ys s ≡ record_of S s
  unfolding until_freed
  as_old ys s l = rw (le-leb 1 (times s ys) l) refl

  pub as_new : (ys : List Node) (s : ℕ) → times s ys ≡ 0 → until_freed S T ys s ≡ record_of T s
  unfolding until_freed
  as_new ys s e = rw (lt-leb 1 (times s ys) (omega arith)) refl

  -- one node less changes that node's record alone
  pub one_less : (y : Node) (ys : List Node) (s : ℕ) → s ≢ y.slot → until_freed S T (y ∷ ys) s ≡ until_freed S T ys s
  unfolding until_freed
  one_less y ys s ne = rw (ne_eqb y.slot s (λ e. ne (sym e))) refl

  -- where S and T differ in column c at P and at freed slots alone, it differs from S at P alone
  pub differs_at : (ys : List Node) (c P : ℕ) → ((s : ℕ) → s < slots_of S → s ≢ P → ¬ (1 ≤ times s ys) → get_or (record_of T s) c 0 ≡ get_or (record_of S s) c 0)
      → (s : ℕ) → s < slots_of S → s ≢ P → get_or (until_freed S T ys s) c 0 ≡ get_or (record_of S s) c 0
  differs_at ys c P same s l ne = elim (test 1 (times s ys)) [
    | hit e p ↦ ap (λ (R : List ℕ). get_or R c 0) (as_old ys s p)
    | miss e p ↦ ap (λ (R : List ℕ). get_or R c 0) (as_new ys s (omega arith)) ∙ same s l ne (λ q. omega arith)
  ]
