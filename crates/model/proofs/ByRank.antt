-- The walk by rank, as document 01 tells it: the precursor of each level, and where it ends.
-- Rests on Walk and Precursor (the last node of a height).
use Prim.Native.Nat.{ℕ, zero, suc, ◌+◌, ◌-◌, ◌≤◌, ◌<◌}
use mathlib.Core.Path.{◌≡◌, refl, sym, ap, ◌∙◌}
use mathlib.Core.Bool.{cond}
use mathlib.Core.List.{List, [], ◌∷◌}
use mathlib.Core.Option.{Option, none, some}
use lib.Dec.{leb, ltb, eqb, eqb-suc-zero}
use lib.ListN.{length, take, drop, get_or, length-take, length-drop}
use lib.Seq.{drop-drop, take-nil}
use native.Mathlib.Nat.{zero-add, add-zero, suc-sub-suc}
use native.Mathlib.Omega.{arith}
use borrow.Author.Tests.{le-leb, lt-leb}
use Rattle.model.specs.Closed.{last}
use Rattle.model.specs.Links.{distance}
use Rattle.model.specs.Nodes.{Node}
use Rattle.model.specs.Walks.{along_ranks, descend_ranks, rank_precursors, next_ranks, rank_walk}
use Rattle.model.proofs.Precursor.{last-last}
use Rattle.model.proofs.Steps.{further-zero, further-one, further_add}
use Rattle.model.proofs.Tests.{same, other, same?, hit, miss, test}
use Rattle.model.proofs.Walk.{last_le}

-- ---- one look at a link, with k ranks to go at most ----
-- an absent link, or one that goes too far: no further node of the stage within reach
out_of_reach : (h k : ℕ) (ys : List Node) → distance h ys ≡ 0 → last h (take k ys) ≡ 0
out_of_reach h zero ys e = refl
out_of_reach h (suc k) [] e = refl
out_of_reach h (suc k) (y ∷ ys) e = elim (test h y.height) [
  | hit f p ↦ absurd (omega (arith, rw f at e))
  | miss f p ↦ rw (f, out_of_reach h k ys (further-zero (distance h ys) (rw f at e))) refl
]

too_far : (h k : ℕ) (ys : List Node) (d : ℕ) → distance h ys ≡ suc d → k ≤ d → last h (take k ys) ≡ 0
too_far h zero ys d e l = refl
too_far h (suc k) [] d e l = refl
too_far h (suc k) (y ∷ ys) zero e l = absurd (omega arith)
too_far h (suc k) (y ∷ ys) (suc d) e l = elim (test h y.height) [
  | hit f p ↦ absurd (omega (arith, rw f at e))
  | miss f p ↦ rw (f, too_far h k ys d (further-one (distance h ys) (suc d) (rw f at e)).0 (omega arith)) refl
]

-- a link that stops short of the target: on from there
in_reach : (h k : ℕ) (ys : List Node) (d : ℕ) → distance h ys ≡ suc d → d < k → last h (take k ys) ≡ suc d + last h (take (k - suc d) (drop (suc d) ys))
in_reach h zero ys d e l = absurd (omega arith)
in_reach h (suc k) [] d e l = absurd (omega (arith, e))
in_reach h (suc k) (y ∷ ys) zero e l = elim (test h y.height) [
  | hit f p ↦ let z : suc k - 1 ≡ k = omega arith in rw (f, z) (omega arith)
  | miss f p ↦ absurd (omega (arith, further-one (distance h ys) 0 (rw f at e)))
]
in_reach h (suc k) (y ∷ ys) (suc d) e l = elim (test h y.height) [
  | hit f p ↦ absurd (omega (arith, rw f at e))
  | miss f p ↦
      let i = in_reach h k ys d (further-one (distance h ys) (suc d) (rw f at e)).0 (omega arith) in
      let z : suc k - suc (suc d) ≡ k - suc d = omega arith in
      rw (f, z, i) (further_add d (last h (take (k - suc d) (drop (suc d) ys))) ∙ omega arith)
]

-- ---- along one level ----
-- one look at the link of level l, of distance d
abbrev looked : ℕ → ℕ → ℕ → List Node → ℕ → ℕ → ℕ
looked n l t xs r d = cond (eqb d 0) r (cond (ltb (r + d) t) (along_ranks n l t xs (r + d)) r)

nothing_left : (h k : ℕ) (ys : List Node) → length ys ≤ 0 → last h (take k ys) ≡ 0
nothing_left h k ys l = omega (arith, last_le h (take k ys), length-take k ys)

-- the walk along level l goes to the last node of height above l and of rank below the target
along_ranks_is : (n l t : ℕ) (xs : List Node) (r : ℕ) → length (drop r xs) ≤ n → along_ranks n l t xs r ≡ r + last (suc l) (take (t - 1 - r) (drop r xs))
along_ranks_is zero l t xs r k = omega (arith, nothing_left (suc l) (t - 1 - r) (drop r xs) k)
along_ranks_is (suc n) l t xs r k = look (distance (suc l) (drop r xs)) refl (λ d. along_ranks_is n l t xs (r + d))
  where
    look : (d : ℕ) → distance (suc l) (drop r xs) ≡ d
        → ((e : ℕ) → length (drop (r + e) xs) ≤ n → along_ranks n l t xs (r + e) ≡ r + e + last (suc l) (take (t - 1 - (r + e)) (drop (r + e) xs)))
        → along_ranks (suc n) l t xs r ≡ r + last (suc l) (take (t - 1 - r) (drop r xs))
    look zero e ih = ap (looked n l t xs r) e ∙ omega (arith, out_of_reach (suc l) (t - 1 - r) (drop r xs) e)
    look (suc d) e ih = elim (test (suc (r + suc d)) t) [
      | hit f p ↦
          let j = t - 1 - (r + suc d) in
          let q = drop-drop (suc d) r xs in
          let z : t - 1 - r - suc d ≡ j = omega arith in
          let i = in_reach (suc l) (t - 1 - r) (drop r xs) d e (omega arith) in
          let g : last (suc l) (take (t - 1 - r - suc d) (drop (suc d) (drop r xs))) ≡ last (suc l) (take j (drop (r + suc d) xs)) = rw (z, q) refl in
          let a : looked n l t xs r (suc d) ≡ along_ranks n l t xs (r + suc d) = rw (eqb-suc-zero d, f) refl in
          ap (looked n l t xs r) e ∙ a ∙ ih (suc d) (omega (arith, length-drop r xs, length-drop (r + suc d) xs)) ∙ omega arith
      | miss f p ↦
          let a : looked n l t xs r (suc d) ≡ r = rw (eqb-suc-zero d, f) refl in
          ap (looked n l t xs r) e ∙ a ∙ omega (arith, too_far (suc l) (t - 1 - r) (drop r xs) d e (omega arith))
    ]

-- ---- down the levels ----
drop-take : (d k : ℕ) (ys : List Node) → drop d (take k ys) ≡ take (k - d) (drop d ys)
drop-take zero k ys = let z : k - 0 ≡ k = omega arith in rw z refl
drop-take (suc d) zero ys = let z : 0 - suc d ≡ 0 = omega arith in rw z refl
drop-take (suc d) (suc k) [] = sym (take-nil (suc k - suc d))
drop-take (suc d) (suc k) (y ∷ ys) = rw suc-sub-suc (drop-take d k ys)

-- the walk along the level above ends where the lower one goes on
below_last : (t l M : ℕ) (xs : List Node) (r : ℕ) → l ≤ M
    → let d = last (suc M) (take (t - 1 - r) (drop r xs)) in
    r + d + last (suc l) (take (t - 1 - (r + d)) (drop (r + d) xs)) ≡ r + last (suc l) (take (t - 1 - r) (drop r xs))
below_last t l M xs r k =
    let ys = drop r xs in
    let a = take (t - 1 - r) ys in
    let d = last (suc M) a in
    let z : t - 1 - r - d ≡ t - 1 - (r + d) = omega arith in
    let g : drop d a ≡ take (t - 1 - (r + d)) (drop (r + d) xs) = drop-take d (t - 1 - r) ys ∙ (rw (z, drop-drop d r xs) refl) in
    omega (arith, last-last (suc M) (suc l) (omega arith) a, ap (last (suc l)) g)

precursor_from : (M l t : ℕ) (xs : List Node) (r : ℕ) → l < M
    → get_or (rank_precursors M t xs r) (M - suc l) 0 ≡ r + last (suc l) (take (t - 1 - r) (drop r xs))
precursor_from zero l t xs r k = absurd (omega arith)
precursor_from (suc M) l t xs r k =
    let d = last (suc M) (take (t - 1 - r) (drop r xs)) in
    let a = along_ranks_is (length xs) M t xs r (omega (arith, length-drop r xs)) in
    elim (test M l) [
      | hit e p ↦
          let z : M - l ≡ 0 = omega arith in
          let q : M ≡ l = omega arith in
          rw (suc-sub-suc, z) (a ∙ (rw q refl))
      | miss e p ↦
          let z : M - l ≡ suc (M - suc l) = omega arith in
          rw (suc-sub-suc, z)
          (ap (λ (p : ℕ). get_or (rank_precursors M t xs p) (M - suc l) 0) a ∙ precursor_from M l t xs (r + d) p ∙ below_last t l M xs r (omega arith))
    ]

-- ---- where it ends ----
descend_le : (M t : ℕ) (xs : List Node) (r : ℕ) → r ≤ t → r ≤ length xs → (descend_ranks M t xs r ≤ t) × (descend_ranks M t xs r ≤ length xs)
descend_le zero t xs r k l = (k, l)
descend_le (suc M) t xs r k l =
    let a = along_ranks_is (length xs) M t xs r (omega (arith, length-drop r xs)) in
    let z = last_le (suc M) (take (t - 1 - r) (drop r xs)) in
    let n = length-take (t - 1 - r) (drop r xs) in
    descend_le M t xs (along_ranks (length xs) M t xs r) (omega (arith, length-drop r xs)) (omega (arith, length-drop r xs))

next-is : (t r : ℕ) (ys : List Node) → r ≤ t → next_ranks t r ys ≡ cond (leb t (r + length ys)) (some t) none
next-is t r [] k = elim (same? r t) [
  | same e p ↦ rw (e, add-zero r, le-leb t r (omega arith)) (ap some p)
  | other e p ↦ rw (e, add-zero r, lt-leb t r (omega arith)) refl
]
next-is t r (y ∷ ys) k = elim (same? r t) [
  | same e p ↦ rw (e, le-leb t (r + suc (length ys)) (omega arith)) (ap some p)
  | other e p ↦ let z : r + suc (length ys) ≡ suc r + length ys = omega arith in rw (e, z) (next-is t (suc r) ys (omega arith))
]

-- the rank of the precursor of level l: `rank_precursors` has them from the highest level down
abbrev pub rank_precursor : ℕ → ℕ → List Node → ℕ → ℕ
rank_precursor M t xs l = get_or (rank_precursors M t xs 0) (M - suc l) 0

pub rank_precursor_lem : (M t : ℕ) (xs : List Node) (l : ℕ) → l < M → rank_precursor M t xs l ≡ last (suc l) (take (t - 1) xs)
rank_precursor_lem M t xs l k = precursor_from M l t xs 0 k ∙ zero-add (last (suc l) (take (t - 1 - 0) xs)) ∙ (let z : t - 1 - 0 ≡ t - 1 = omega arith in rw z refl)

-- ---- the walk from any rank on, and the whole walk ----
-- where the walk ends from rank r, with the levels below M to come
abbrev ended_from : ℕ → ℕ → List Node → ℕ → Option ℕ
ended_from M t xs r = let p = descend_ranks M t xs r in next_ranks t p (drop p xs)

from_is : (M t : ℕ) (xs : List Node) (r : ℕ) → r ≤ t → r ≤ length xs → ended_from M t xs r ≡ cond (leb t (length xs)) (some t) none
from_is M t xs r k l =
    let p = descend_ranks M t xs r in
    let b = descend_le M t xs r k l in
    let z : p + length (drop p xs) ≡ length xs = omega (arith, length-drop p xs) in
    next-is t p (drop p xs) b.0 ∙ (rw z refl)

pub from_there : (M t : ℕ) (xs : List Node) (r : ℕ) → r ≤ t → t ≤ length xs → ended_from M t xs r ≡ some t
from_there M t xs r k l = from_is M t xs r k (omega arith) ∙ (rw (le-leb t (length xs) l) refl)

pub from_past : (M t : ℕ) (xs : List Node) (r : ℕ) → r ≤ length xs → length xs < t → ended_from M t xs r ≡ none
from_past M t xs r k l = from_is M t xs r (omega arith) k ∙ (rw (lt-leb t (length xs) l) refl)

-- past the target: no link and no next leads back
descend-behind : (M t : ℕ) (xs : List Node) (r : ℕ) → t < r → descend_ranks M t xs r ≡ r
descend-behind zero t xs r k = refl
descend-behind (suc M) t xs r k =
    let z : t - 1 - r ≡ 0 = omega arith in
    let a : along_ranks (length xs) M t xs r ≡ r = along_ranks_is (length xs) M t xs r (omega (arith, length-drop r xs)) ∙ (rw z (omega arith)) in
    ap (descend_ranks M t xs) a ∙ descend-behind M t xs r k

next-behind : (t r : ℕ) (ys : List Node) → t < r → next_ranks t r ys ≡ none
next-behind t r [] k = elim (same? r t) [ same e p ↦ absurd (omega arith) | other e p ↦ rw e refl ]
next-behind t r (y ∷ ys) k = elim (same? r t) [ same e p ↦ absurd (omega arith) | other e p ↦ rw e (next-behind t (suc r) ys (omega arith)) ]

pub from-behind : (M t : ℕ) (xs : List Node) (r : ℕ) → t < r → ended_from M t xs r ≡ none
from-behind M t xs r k = ap (λ (p : ℕ). next_ranks t p (drop p xs)) (descend-behind M t xs r k) ∙ next-behind t r (drop r xs) k

-- "target 0 ends at the head at once .. Above the length it ends with none." That all precursors of target 0 are the head is `rank_precursor_lem` there.
rank_walk_is : (M t : ℕ) (xs : List Node) → rank_walk M t xs ≡ cond (leb t (length xs)) (some t) none
rank_walk_is M t xs = from_is M t xs 0 (omega arith) (omega arith)

pub rank_there : (M t : ℕ) (xs : List Node) → t ≤ length xs → rank_walk M t xs ≡ some t
rank_there M t xs l = rank_walk_is M t xs ∙ (rw (le-leb t (length xs) l) refl)

pub rank-past : (M t : ℕ) (xs : List Node) → length xs < t → rank_walk M t xs ≡ none
rank-past M t xs l = rank_walk_is M t xs ∙ (rw (lt-leb t (length xs) l) refl)
