-- The limit of the tally by the largest gap of a list. Rests on Walk and specs/Gaps.
use Prim.Native.Nat.{ℕ, zero, suc, ◌+◌, ◌*◌, ◌≤◌, ◌<◌}
use mathlib.Core.Path.{◌≡◌}
use mathlib.Core.List.{List, [], ◌∷◌, ◌++◌}
use lib.ListN.{take, drop, take-append-drop}
use lib.Seq.{drop-append-le}
use native.Mathlib.Nat.{not-suc-le-zero, le_trans}
use native.Mathlib.Omega.{arith}
use borrow.Author.Tests.{le-leb}
use Rattle.model.specs.Gaps.{gap_at, gap}
use Rattle.model.specs.Links.{further}
use Rattle.model.specs.Nodes.{Node, smaller, Below, Above, Sorted, Low}
use Rattle.model.specs.Closed.{tally, last}
use Rattle.model.proofs.Ordering.{low_cut}
use Rattle.model.proofs.Tests.{hit, miss, test}
use Rattle.model.proofs.Walk.{last_le, tall, any_le, go-split, asks-split, below-drop, below-smaller, above-smaller}

gap_from : (h c d : ℕ) → c ≤ d → (ys : List Node) → (c ≤ gap_at h c ys) × (gap_at h c ys ≤ gap_at h d ys)
gap_from h c d l [] = (omega arith, l)
gap_from h c d l (y ∷ ys) = elim (test h y.height) [
  | hit e p ↦ elim (test y.height h) [
    | hit f q ↦ rw (e, f) (omega (arith, gap_from h (suc c) (suc d) (omega arith) ys))
    | miss f q ↦ rw (e, f) (omega arith)
  ]
  | miss e p ↦ rw e (gap_from h c d l ys)
]

gap-drop : (h c n : ℕ) (xs : List Node) → gap_at h 0 (drop n xs) ≤ gap_at h c xs
gap-drop h c zero xs = (gap_from h 0 c (omega arith) xs).1
gap-drop h c (suc n) [] = omega arith
gap-drop h c (suc n) (y ∷ ys) = elim (test h y.height) [
  | hit e p ↦ elim (test y.height h) [
    | hit f q ↦ rw (e, f) (gap-drop h (suc c) n ys)
    | miss f q ↦ rw (e, f) (omega (arith, gap-drop h 0 n ys))
  ]
  | miss e p ↦ rw e (gap-drop h c n ys)
]

gap_prefix : (h c : ℕ) (aa bb : List Node) → gap_at h c aa ≤ gap_at h c (aa ++ bb)
gap_prefix h c [] bb = (gap_from h c c (omega arith) bb).0
gap_prefix h c (y ∷ ys) bb = elim (test h y.height) [
  | hit e p ↦ elim (test y.height h) [
    | hit f q ↦ rw (e, f) (gap_prefix h (suc c) ys bb)
    | miss f q ↦ rw (e, f) (omega (arith, gap_prefix h 0 ys bb))
  ]
  | miss e p ↦ rw e (gap_prefix h c ys bb)
]

-- where no node is higher, the gap is the number of nodes of that height
pub gap-low : (h c : ℕ) (aa : List Node) → Low h aa → gap_at h c aa ≡ c + tall h aa
gap-low h c [] w = omega arith
gap-low h c (y ∷ ys) w = elim (test h y.height) [
  | hit e p ↦ rw (e, le-leb y.height h w.0) (omega (arith, gap-low h (suc c) ys w.1))
  | miss e p ↦ rw e (gap-low h c ys w.1)
]

-- past the last of height h + 1 no node is higher than h
low-drop : (h : ℕ) (aa : List Node) → Low h (drop (last (suc h) aa) aa)
low-drop h [] = tt
low-drop h (y ∷ ys) = elim (test (suc h) y.height) [
  | hit e p ↦ rw e (low-drop h ys)
  | miss e p ↦ rw e (low (last (suc h) ys) (low-drop h ys) p)
]
  where
    low : (d : ℕ) → Low h (drop d ys) → y.height < suc h → Low h (drop (further d) (y ∷ ys))
    low zero w p = (omega arith, w)
    low (suc d) w p = w

tally_gaps : (h t g : ℕ) (aa bb : List Node) → Below t aa → Above t bb → Low h aa → ((k : ℕ) → k ≤ h → gap_at k 0 aa ≤ g) → tally h t (aa ++ bb) ≤ (g + 1) * (h + 1)
tally_gaps zero t g aa bb p q w f = omega (arith, asks-split 0 t aa bb p q, any_le 0 bb, gap-low 0 0 aa w, f 0 (omega arith))
tally_gaps (suc h) t g aa bb p q w f =
    let d = last (suc h) aa in
    let l = last_le (suc h) aa in
    rw (go-split (suc h) t aa bb p q, drop-append-le d aa bb l)
    (omega (
      arith,
      asks-split (suc h) t aa bb p q,
      any_le (suc h) bb,
      gap-low (suc h) 0 aa w,
      f (suc h) (omega arith),
      tally_gaps h t g (drop d aa) bb (below-drop t d aa p) q (low-drop h aa) (λ k m. le_trans (gap-drop k 0 d aa) (f k (omega arith))),
    ))

gap-all : (h : ℕ) (xs : List Node) (k : ℕ) → k ≤ h → gap_at k 0 xs ≤ gap h xs
gap-all zero xs zero l = omega arith
gap-all zero xs (suc k) l = absurd (not-suc-le-zero l)
gap-all (suc h) xs k l = elim (test k h) [
  | hit e p ↦ omega (arith, gap-all h xs k p)
  | miss e p ↦ let q : k ≡ suc h = omega arith in rw q (omega arith)
]

-- at most (g + 1)(M + 1) comparisons, g being the largest gap
pub tally-gap : (M t : ℕ) (xs : List Node) → Sorted xs → Low M xs → tally M t xs ≤ (gap M xs + 1) * (M + 1)
tally-gap M t xs s w =
    let r = smaller t xs in
    let f : (k : ℕ) → k ≤ M → gap_at k 0 (take r xs) ≤ gap M xs
    = λ k l. le_trans (rw (take-append-drop r xs) at (gap_prefix k 0 (take r xs) (drop r xs))) (gap-all M xs k l) in
    rw (take-append-drop r xs) at (tally_gaps M t (gap M xs) (take r xs) (drop r xs) (below-smaller t xs) (above-smaller t xs s) (low_cut M r xs w).0 f)
