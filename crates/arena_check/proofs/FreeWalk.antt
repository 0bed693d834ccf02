-- The free chain, step by step: what each test of a free node says, and that the chain is right exactly when what is left of it is.
-- Rests on specs/FreeChain.
use Prim.Native.Nat.{ℕ, suc, ◌-◌, ◌<◌}
use mathlib.Core.Path.{◌≡◌}
use mathlib.Core.Bool.{Bool, true, false}
use mathlib.Core.List.{List}
use native.Mathlib.Omega.{arith}
use Rattle.model.specs.Nodes.{N}
use Rattle.arena.specs.Decides.{Decides}
use Rattle.arena.proofs.Deciding.{yes, no, say_no}
use Rattle.link_check.specs.declared.Dims.{Dims}
use Rattle.link_check.specs.Shape.{next_in}
use Rattle.arena_check.specs.Headed.{free_count, first_free_slot}
use Rattle.arena_check.specs.FreeChain.{FreeNode, FreeFrom}

-- ---- the chain: the walk stands at slot s with n nodes left ----
abbrev pub FreeWhole : List ℕ → Dims → Type 0
FreeWhole w d = FreeFrom w d (free_count w) (first_free_slot w)

pub record FreeAt (w : List ℕ) (d : Dims) (n s : ℕ) : Type 0 where
  pub to : FreeWhole w d → FreeFrom w d n s
  pub from : FreeFrom w d n s → FreeWhole w d

module _ {w : List ℕ} {d : Dims} {n s : ℕ} (t : FreeAt w d n s) where
  module _ {m : ℕ} (l : n ≡ suc m) where
    first_free_step : FreeWhole w d → FreeNode w d s × FreeFrom w d m (next_in w d s)
    unfolding FreeFrom
    first_free_step f = rw l at (t.to f)

    one_free_more : FreeNode w d s × FreeFrom w d m (next_in w d s) → FreeWhole w d
    unfolding FreeFrom
    one_free_more f = t.from (rw l f)

    pub free_next : {b : Bool} {x : ℕ} → Decides b (FreeNode w d s) → b ≡ true → x ≡ next_in w d s → FreeAt w d m x
    free_next h e q = rw q (record { to = λ f. (first_free_step f).1; from = λ f. one_free_more (yes h e, f) })

  pub not_free : {b : Bool} → 0 < n → Decides b (FreeNode w d s) → b ≡ false → Decides false (FreeWhole w d)
  not_free l h e = let i : n ≡ suc (n - 1) = omega arith in say_no (λ f. no h e (first_free_step i f).0)

  pub free_decided : n ≡ 0 → (b : Bool) → Decides b (s ≡ N) → Decides b (FreeWhole w d)
  unfolding FreeFrom
  free_decided l b h = record { sound = λ u. t.from (rw l (h.sound u)); complete = λ f. h.complete (rw l at (t.to f)) }
