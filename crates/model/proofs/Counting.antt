-- Every node slot stands once: the lists' lengths and that of the free chain add up to the room. Rests on Apart (sums over slots) and Records.
use Prim.Native.Nat.{ℕ, zero, suc, ◌+◌, ◌≤◌, ◌<◌}
use mathlib.Core.Path.{◌≡◌, refl, ◌∙◌}
use mathlib.Core.List.{List, [], ◌∷◌}
use lib.ListN.{length, get_or}
use native.Mathlib.Omega.{arith}
use borrow.Author.Tests.{eq-eqb}
use Rattle.model.specs.Arena.{State, list_of}
use Rattle.model.specs.Nodes.{Node}
use Rattle.model.specs.Passes.{times, times_all, times_free, Sound}
use Rattle.model.proofs.Apart.{sum, one_at, sum_add, sum_one, sum_ext, sum-zero, sum-chain, InRange}
use Rattle.model.proofs.Records.{placed}
use Rattle.model.proofs.Tests.{same, other, same?}

times-one : (y : Node) (ys : List Node) (s : ℕ) → times s (y ∷ ys) ≡ one_at y.slot s + times s ys
unfolding one_at
times-one y ys s = elim (same? y.slot s) [ same e p ↦ rw e (omega arith) | other e p ↦ rw e (omega arith) ]

-- the lengths of all lists together
abbrev pub total : List (List Node) → ℕ
total [] = zero
total (xs ∷ xss) = length xs + total xss

get_le : (xss : List (List Node)) (a : ℕ) → length (get_or xss a []) ≤ total xss
get_le [] a = omega arith
get_le (xs ∷ xss) zero = omega arith
get_le (xs ∷ xss) (suc a) = omega (arith, get_le xss a)

module _ (L C : ℕ) where
  Inside : (ℕ → ℕ) → Type 0
  Inside f = (s : ℕ) → 1 ≤ f s → (L ≤ s) × (s < L + C)

  sum-nodes : (xs : List Node) → Inside (λ s. times s xs) → sum (λ s. times s xs) L C ≡ length xs
  unfolding Inside
  sum-nodes [] h = sum-zero L C
  sum-nodes (y ∷ ys) h =
      let i = h y.slot (rw (eq-eqb y.slot y.slot refl) (omega arith)) in
      sum_ext (λ s. times s (y ∷ ys)) (λ s. one_at y.slot s + times s ys) (times-one y ys) L C
      ∙ sum_add (one_at y.slot) (λ s. times s ys) L C ∙ omega (arith, sum_one y.slot L C i.0 i.1, sum-nodes ys (λ s k. h s (omega (arith, times-one y ys s))))

  sum_lists : (xss : List (List Node)) → Inside (λ s. times_all s xss) → sum (λ s. times_all s xss) L C ≡ total xss
  unfolding Inside
  sum_lists [] h = sum-zero L C
  sum_lists (xs ∷ xss) h =
      sum_add (λ s. times s xs) (λ s. times_all s xss) L C ∙ omega (arith, sum-nodes xs (λ s k. h s (omega arith)), sum_lists xss (λ s k. h s (omega arith)))

  sum_free : (fs : List ℕ) → Inside (λ s. times_free s fs) → InRange L C fs
  unfolding Inside
  sum_free [] h = tt
  sum_free (f ∷ fs) h =
      let i = h f (rw (eq-eqb f f refl) (omega arith)) in
      (i.0, i.1, sum_free fs (λ s k. h s (elim (same? f s) [ same e p ↦ rw e (omega arith) | other e p ↦ rw e k ])))

  sum_ones : (f : ℕ → ℕ) (s n : ℕ) → ((k : ℕ) → s ≤ k → k < s + n → f k ≡ 1) → sum f s n ≡ n
  sum_ones f s zero h = refl
  sum_ones f s (suc n) h = omega (arith, h s (omega arith) (omega arith), sum_ones f (suc s) n (λ k a b. h k (omega arith) (omega arith)))

pub all_slots : (S : State) → Sound S → total S.lists + length S.free ≡ S.room
unfolding Inside
all_slots S v =
    let L = length S.lists in
    let C = S.room in
    let a = sum_lists L C S.lists (λ s k. let p = placed S v s (omega arith) in (p.0, p.1)) in
    let b = sum-chain L C S.free (sum_free L C S.free (λ s k. let p = placed S v s (omega arith) in (p.0, p.1))) in
    let o = sum_ones L C (λ s. times_all s S.lists + times_free s S.free) L C (λ k x y. v.once k x y) in
    omega (arith, a, b, o, sum_add (λ s. times_all s S.lists) (λ s. times_free s S.free) L C)

pub list_few : (S : State) → Sound S → (a : ℕ) → length (list_of S a) + length S.free ≤ S.room
list_few S v a = omega (arith, all_slots S v, get_le S.lists a)
