-- The closed form of the walk by key, on a list cut into the keys below the target and the others: where it ends, and the first limit of its
-- tally. Stage h runs through the nodes of height h and more, so that level l is stage l + 1. Rests on specs/Walks.
use Prim.Native.Nat.{ℕ, zero, suc, ◌+◌, ◌≤◌}
use mathlib.Core.Path.{◌≡◌, refl, sym, ap, ◌∙◌}
use mathlib.Core.Bool.{cond}
use mathlib.Core.List.{List, [], ◌∷◌, ◌++◌}
use lib.Dec.{leb}
use lib.ListN.{length, take, drop, take-append-drop, length-drop}
use lib.Seq.{drop-append-le, length-take-le}
use native.Mathlib.Nat.{zero-add}
use native.Mathlib.Omega.{arith}
use borrow.Author.Tests.{le-leb, lt-ltb, le-ltb}
use Rattle.model.specs.Links.{further}
use Rattle.model.specs.Nodes.{Node, smaller, Below, Above, Sorted}
use Rattle.model.specs.Closed.{last, go, asks, ends, tally}
use Rattle.model.proofs.Steps.{further_le}
use Rattle.model.proofs.Tests.{hit, miss, test}

-- how many are of height h or more; whether any
abbrev pub tall : ℕ → List Node → ℕ
tall h [] = zero
tall h (y ∷ ys) = cond (leb h y.height) (suc (tall h ys)) (tall h ys)

abbrev pub any : ℕ → List Node → ℕ
any h [] = zero
any h (y ∷ ys) = cond (leb h y.height) 1 (any h ys)

pub any_le : (h : ℕ) (ys : List Node) → any h ys ≤ 1
any_le h [] = omega arith
any_le h (y ∷ ys) = elim (test h y.height) [ hit e p ↦ rw e (omega arith) | miss e p ↦ rw e (any_le h ys) ]

go-above : (h t : ℕ) (bb : List Node) → Above t bb → go h t bb ≡ 0
go-above h t [] q = refl
go-above h t (y ∷ ys) q =
    elim (test h y.height) [ hit e p ↦ rw (e, le-ltb y.key t q.0) refl | miss e p ↦ rw e (ap further (go-above h t ys q.1)) ]

pub go-split : (h t : ℕ) (aa bb : List Node) → Below t aa → Above t bb → go h t (aa ++ bb) ≡ last h aa
go-split h t [] bb p q = go-above h t bb q
go-split h t (y ∷ ys) bb p q =
    elim (test h y.height) [
      | hit e r ↦ rw (e, lt-ltb y.key t p.0) (ap suc (go-split h t ys bb p.1 q))
      | miss e r ↦ rw e (ap further (go-split h t ys bb p.1 q))
    ]

asks-above : (h t : ℕ) (bb : List Node) → Above t bb → asks h t bb ≡ any h bb
asks-above h t [] q = refl
asks-above h t (y ∷ ys) q =
    elim (test h y.height) [ hit e p ↦ rw (e, le-ltb y.key t q.0) refl | miss e p ↦ rw e (asks-above h t ys q.1) ]

pub asks-split : (h t : ℕ) (aa bb : List Node) → Below t aa → Above t bb → asks h t (aa ++ bb) ≡ tall h aa + any h bb
asks-split h t [] bb p q = asks-above h t bb q ∙ sym (zero-add (any h bb))
asks-split h t (y ∷ ys) bb p q =
    let ih = asks-split h t ys bb p.1 q in
    elim (test h y.height) [
      | hit e r ↦ rw (e, lt-ltb y.key t p.0) (omega arith)
      | miss e r ↦ rw e ih
    ]

pub last_le : (h : ℕ) (aa : List Node) → last h aa ≤ length aa
last_le h [] = omega arith
last_le h (y ∷ ys) = elim (test h y.height) [ hit e p ↦ rw e (omega (arith, last_le h ys)) | miss e p ↦ rw e (further_le (last h ys) (last_le h ys)) ]

go_le : (h t : ℕ) (ys : List Node) → go h t ys ≤ length ys
go_le h t [] = omega arith
go_le h t (y ∷ ys) = elim (test h y.height) [
  | hit e p ↦ rw e (elim (test (suc y.key) t) [ hit f q ↦ rw f (omega (arith, go_le h t ys)) | miss f q ↦ rw f (omega arith) ])
  | miss e p ↦ rw e (further_le (go h t ys) (go_le h t ys))
]

-- on any list the walk ends within it
pub ends_le : (h t : ℕ) (ys : List Node) → ends h t ys ≤ length ys
ends_le zero t ys = go_le 0 t ys
ends_le (suc h) t ys = let d = go (suc h) t ys in omega (arith, go_le (suc h) t ys, ends_le h t (drop d ys), length-drop d ys)

pub last-zero : (aa : List Node) → last 0 aa ≡ length aa
last-zero [] = refl
last-zero (y ∷ ys) = rw (le-leb 0 y.height (omega arith)) (ap suc (last-zero ys))

pub tall_le : (h : ℕ) (aa : List Node) → tall h aa ≤ last h aa
tall_le h [] = omega arith
tall_le h (y ∷ ys) = elim (test h y.height) [ hit e p ↦ rw e (omega (arith, tall_le h ys)) | miss e p ↦ rw e (le_further (last h ys) (tall_le h ys)) ]
  where
    le_further : {n : ℕ} (d : ℕ) → n ≤ d → n ≤ further d
    le_further zero l = l
    le_further (suc d) l = omega arith

pub below-drop : (t n : ℕ) (aa : List Node) → Below t aa → Below t (drop n aa)
below-drop t zero aa p = p
below-drop t (suc n) [] p = p
below-drop t (suc n) (y ∷ ys) p = below-drop t n ys p.1

-- the walk ends after the keys below the target, whatever the heights
pub ends-split : (h t : ℕ) (aa bb : List Node) → Below t aa → Above t bb → ends h t (aa ++ bb) ≡ length aa
ends-split zero t aa bb p q = go-split 0 t aa bb p q ∙ last-zero aa
ends-split (suc h) t aa bb p q =
    let d = last (suc h) aa in
    let l = last_le (suc h) aa in
    rw (go-split (suc h) t aa bb p q, drop-append-le d aa bb l)
    (omega (arith, ends-split h t (drop d aa) bb (below-drop t d aa p) q, length-drop d aa))

-- demand 3, the first limit
pub tally-split : (h t : ℕ) (aa bb : List Node) → Below t aa → Above t bb → tally h t (aa ++ bb) ≤ length aa + h + 1
tally-split zero t aa bb p q = omega (arith, asks-split 0 t aa bb p q, tall_le 0 aa, last-zero aa, any_le 0 bb)
tally-split (suc h) t aa bb p q =
    let d = last (suc h) aa in
    let l = last_le (suc h) aa in
    rw (go-split (suc h) t aa bb p q, drop-append-le d aa bb l)
    (omega (arith, tally-split h t (drop d aa) bb (below-drop t d aa p) q, length-drop d aa, asks-split (suc h) t aa bb p q, tall_le (suc h) aa, any_le (suc h) bb))

-- a list whose keys never fall, cut at the number of smaller keys
pub above_trans : {s t : ℕ} → s ≤ t → (ys : List Node) → Above t ys → Above s ys
above_trans l [] q = q
above_trans l (y ∷ ys) q = (omega (arith, q.0), above_trans l ys q.1)

pub below-smaller : (t : ℕ) (xs : List Node) → Below t (take (smaller t xs) xs)
below-smaller t [] = tt
below-smaller t (y ∷ ys) = elim (test (suc y.key) t) [ hit e p ↦ rw e (p, below-smaller t ys) | miss e p ↦ rw e tt ]

pub above-smaller : (t : ℕ) (xs : List Node) → Sorted xs → Above t (drop (smaller t xs) xs)
above-smaller t [] s = tt
above-smaller t (y ∷ ys) s =
    elim (test (suc y.key) t) [ hit e p ↦ rw e (above-smaller t ys s.1) | miss e p ↦ rw e (omega arith, above_trans (omega arith) ys s.0) ]

pub smaller_le : (t : ℕ) (xs : List Node) → smaller t xs ≤ length xs
smaller_le t [] = omega arith
smaller_le t (y ∷ ys) = elim (test (suc y.key) t) [ hit e p ↦ rw e (omega (arith, smaller_le t ys)) | miss e p ↦ rw e (omega arith) ]

-- the search's place is the number of smaller keys, and its tally is within the first limit
pub place_is : (M t : ℕ) (xs : List Node) → Sorted xs → ends M t xs ≡ smaller t xs
place_is M t xs s =
    let r = smaller t xs in
    let e = ends-split M t (take r xs) (drop r xs) (below-smaller t xs) (above-smaller t xs s) in
    (rw (take-append-drop r xs) at e) ∙ length-take-le r xs (smaller_le t xs)

pub tally_le : (M t : ℕ) (xs : List Node) → Sorted xs → tally M t xs ≤ smaller t xs + M + 1
tally_le M t xs s =
    let r = smaller t xs in
    let e = tally-split M t (take r xs) (drop r xs) (below-smaller t xs) (above-smaller t xs s) in
    omega (arith, rw (take-append-drop r xs) at e, length-take-le r xs (smaller_le t xs))
