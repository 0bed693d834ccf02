-- The two keys in the middle of a list, which are one where the length is odd: the walk to the lower one, and the step by next to the upper one.
-- Rests on walk's Standing and rank_walk's Seeking.
use Prim.Native.Nat.{ℕ, suc, ◌+◌, ◌-◌, ◌/◌, ◌%◌, ◌<◌}
use mathlib.Core.Path.{◌≡◌, refl, ap, ◌∙◌}
use mathlib.Core.Logic.{◌≢◌}
use mathlib.Core.List.{List}
use lib.ListN.{length}
use native.Mathlib.Omega.{arith}
use Rattle.model.specs.Nodes.{Node, key_at, slot_at}
use Rattle.model.specs.Lists.{middle_of}
use Rattle.model.specs.Arena.{key_column, next_column}
use Rattle.model.specs.Cells.{cell_at}
use Rattle.model.specs.Passes.{nodes}
use Rattle.arena.specs.Owners.{Listed}
use Rattle.walk.specs.Standing.{Standing}
use Rattle.walk.proofs.Standing.{at-rank, key_here}
use Rattle.rank_walk.proofs.Seeking.{steps}

-- slot s is at index floor((n - 1) / 2) of list a, which has n keys
module _ {w : List ℕ} {m a n s : ℕ} (g : Listed w m a × (0 < length (nodes w a))) (count : n ≡ length (nodes w a)) (there : s ≡ slot_at a (nodes w a) (suc ((n - 1) / 2))) where
  abbrev xs : List Node
  xs = nodes w a

  pub at_lower : Standing w m a (length xs) 0 s (suc ((n - 1) / 2))
  at_lower = at-rank _ g.0 (omega (arith, g.1)) there

  pub at_upper : n % 2 ≢ 1 → {to : ℕ} → to ≡ cell_at m w s next_column → Standing w m a (length xs) 0 to (suc (n / 2))
  at_upper o {to} e = steps at_lower (omega (arith, g.1)) to _ e (omega (arith, g.1))

  lower_is : {k : ℕ} → k ≡ cell_at m w s key_column → k ≡ key_at xs ((n - 1) / 2)
  lower_is e = e ∙ key_here at_lower _ refl

  pub odd : n % 2 ≡ 1 → {k : ℕ} → k ≡ cell_at m w s key_column → k + k ≡ middle_of xs
  odd o e =
      let one : (n - 1) / 2 ≡ n / 2 = omega arith in
      let upper_is = lower_is e ∙ ap (key_at xs) one in
      rw (← count) (λ i. lower_is e i + upper_is i)

  pub even : n % 2 ≢ 1 → {to k j : ℕ} → to ≡ cell_at m w s next_column → k ≡ cell_at m w s key_column → j ≡ cell_at m w to key_column → k + j ≡ middle_of xs
  even o t e f =
      let upper_is = f ∙ key_here (at_upper o t) _ refl in
      rw (← count) (λ i. lower_is e i + upper_is i)
