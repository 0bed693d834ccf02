-- The tests of all heads: their lengths add up, and their last slots differ. Rests on specs/Headed and link_check's Loops.
use Prim.Native.Nat.{ℕ, zero, suc, ◌+◌, ◌*◌, ◌≤◌, ◌<◌}
use mathlib.Core.Path.{◌≡◌, sym, ◌∙◌}
use mathlib.Core.Bool.{true, not}
use lib.Dec.{eqb}
use mathlib.Core.List.{List}
use native.Mathlib.Numerals.{add-one}
use native.Mathlib.Omega.{arith}
use Rattle.model.specs.Nodes.{N}
use Rattle.model.proofs.Tests.{hit, miss, test, same, other, same?}
use Rattle.arena.specs.Decides.{Decides}
use Rattle.arena.proofs.Deciding.{say_yes, say_no}
use Rattle.link_check.specs.declared.Dims.{Dims}
use Rattle.link_check.specs.EachFrom.{EachFrom}
use Rattle.link_check.specs.Shape.{count_in, last_in}
use Rattle.arena_check.specs.Headed.{free_count, lengths, LastsDiffer}

-- ---- the lengths, head by head: the sum over the first a heads ----
pub record Counted (w : List ℕ) (d : Dims) (sum a : ℕ) : Type 0 where
  pub few : sum < 4294967296 * (a + 1)
  pub is : sum ≡ free_count w + lengths w d a

pub count_none : {w : List ℕ} {d : Dims} {sum : ℕ} → sum ≡ free_count w → sum < 4294967296 → Counted w d sum 0
unfolding lengths
count_none e l = record { few = omega arith; is = omega arith }

pub count_more : {w : List ℕ} {d : Dims} {sum a n : ℕ} → Counted w d sum a → n ≡ count_in w d a → n < 4294967296 → Counted w d (sum + n) (a + 1)
unfolding lengths
count_more {w} {d} {sum} {a} {n} h e k = rw (add-one a) (record { few = omega arith; is = omega (arith, h.is, e) })

one-length : (w : List ℕ) (d : Dims) (n a : ℕ) → a < n → count_in w d a ≤ lengths w d n
unfolding lengths
one-length w d zero a l = absurd (omega arith)
one-length w d (suc n) a l = elim (test n a) [
  | hit e p ↦ let z : a ≡ n = omega arith in rw z (omega arith)
  | miss e p ↦ omega (arith, one-length w d n a p)
]

pub length_fits : (w : List ℕ) (d : Dims) (a : ℕ) → free_count w + lengths w d d.lists ≡ d.room → a < d.lists → count_in w d a ≤ d.room
length_fits w d a e l = omega (arith, one-length w d d.lists a l)

-- ---- the last slot t of head a, and of each head before it ----
module _ (w : List ℕ) (d : Dims) (a : ℕ) {t : ℕ} (i : t ≡ last_in w d a) where
  pub empty-list : t ≡ N → Decides true (EachFrom 0 a (LastsDiffer w d a))
  unfolding EachFrom LastsDiffer
  empty-list e = say_yes (λ b o l q. sym i ∙ e)

  pub last-differs : (b u : ℕ) → (t ≡ N → ⊥) → u ≡ last_in w d b → Decides (not (eqb u t)) (LastsDiffer w d a b)
  unfolding LastsDiffer
  last-differs b u n j = elim (same? u t) [
    | same e p ↦ rw e (say_no (λ f. n (i ∙ f (sym i ∙ sym p ∙ j))))
    | other e k ↦ rw e (say_yes (λ f. absurd (k (j ∙ sym f ∙ sym i))))
  ]
