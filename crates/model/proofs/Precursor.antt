-- What the closed form of the walk by key leaves: the precursor of each stage, and whether the key is found. Rests on Walk.
use Prim.Native.Nat.{ℕ, zero, suc, ◌+◌, ◌-◌, ◌≤◌, ◌<◌}
use mathlib.Core.Path.{◌≡◌, refl, sym, ◌∙◌}
use mathlib.Core.Logic.{inl, inr}
use mathlib.Core.Bool.{true, false, false≢true}
use mathlib.Core.List.{List, [], ◌∷◌, ◌++◌}
use lib.ListN.{length, take, drop, get_or, take-append-drop, length-drop}
use lib.Seq.{drop-append-le, length-take-le, get_or-take, get_or-drop}
use native.Mathlib.Nat.{zero-add, add-zero, sub_self, not-suc-le-zero, suc-ne-zero, suc_inj, eq-or-lt_of_le}
use native.Mathlib.Omega.{arith}
use borrow.Author.Tests.{le-leb, eqb-true, eqb-false}
use Rattle.model.specs.Claims.{LastBelow, FoundFirst}
use Rattle.model.specs.Links.{further}
use Rattle.model.specs.Nodes.{at, Node, node, N, smaller, Below, Above, Sorted}
use Rattle.model.specs.Closed.{stops, key_is, last}
use Rattle.model.proofs.Steps.{further_add}
use Rattle.model.proofs.Tests.{hit, miss, test}
use Rattle.model.proofs.Walk.{last_le, go-split, below-drop, below-smaller, above-smaller, smaller_le}

-- the last of height h is found behind the last of a greater height
pub last-last : (g h : ℕ) → h ≤ g → (aa : List Node) → last h aa ≡ last g aa + last h (drop (last g aa) aa)
last-last g h l [] = refl
last-last g h l (y ∷ ys) = elim (test g y.height) [
  | hit e p ↦ rw (e, le-leb h y.height (omega arith)) (omega (arith, last-last g h l ys))
  | miss e p ↦ rw e (low (last g ys) (last-last g h l ys))
]
  where
    low : (d : ℕ) → last h ys ≡ d + last h (drop d ys) → last h (y ∷ ys) ≡ further d + last h (drop (further d) (y ∷ ys))
    low zero ih = sym (zero-add (last h (y ∷ ys)))
    low (suc d) ih = elim (test h y.height) [
      | hit e p ↦ rw e (omega arith)
      | miss e p ↦ rw (e, ih) (further_add d (last h (drop (suc d) ys)) ∙ omega arith)
    ]

stops-split : (M h t r : ℕ) → h ≤ M → (aa bb : List Node) → Below t aa → Above t bb → get_or (stops M t r (aa ++ bb)) (M - h) 0 ≡ r + last h aa
stops-split zero zero t r l aa bb p q = rw go-split refl
stops-split zero (suc h) t r l aa bb p q = absurd (not-suc-le-zero l)
stops-split (suc M) h t r l aa bb p q = elim (eq-or-lt_of_le l) [
  | inl e ↦ rw (e, sub_self, go-split) refl
  | inr k ↦
      let d = last (suc M) aa in
      let j : suc M - h ≡ suc (M - h) = omega arith in
      let m = last_le (suc M) aa in
      rw (j, go-split (suc M) t aa bb p q, drop-append-le d aa bb m, stops-split M h t (r + d) (omega arith) (drop d aa) bb (below-drop t d aa p) q)
      (omega (arith, last-last (suc M) h (omega arith) aa))
]

-- where the last of height h or more stands, and that none stands behind it
pub last-node : (h : ℕ) (aa : List Node) (i : ℕ) → last h aa ≡ suc i → h ≤ (at aa i).height
last-node h [] i e = absurd (suc-ne-zero i (sym e))
last-node h (y ∷ ys) zero e = elim (test h y.height) [ hit f p ↦ p | miss f p ↦ absurd (no (last h ys) (rw f at e)) ]
  where
    no : (d : ℕ) → further d ≡ 1 → ⊥
    no zero e = omega arith
    no (suc d) e = omega arith
last-node h (y ∷ ys) (suc i) e = last-node h ys i (elim (test h y.height) [ hit f p ↦ suc_inj (rw f at e) | miss f p ↦ low (last h ys) (rw f at e) ])
  where
    low : (d : ℕ) → further d ≡ suc (suc i) → d ≡ suc i
    low zero e = omega arith
    low (suc d) e = omega arith

last_none : (h : ℕ) (aa : List Node) (i : ℕ) → last h aa ≤ i → i < length aa → (at aa i).height < h
last_none h [] i l k = absurd (not-suc-le-zero k)
last_none h (y ∷ ys) zero l k = elim (test h y.height) [ hit f p ↦ absurd (not-suc-le-zero (rw f at l)) | miss f p ↦ p ]
last_none h (y ∷ ys) (suc i) l k = last_none h ys i (elim (test h y.height) [ hit f p ↦ omega (arith, rw f at l) | miss f p ↦ low (last h ys) (rw f at l) ]) (omega arith)
  where
    low : (d : ℕ) → further d ≤ suc i → d ≤ i
    low zero e = omega arith
    low (suc d) e = omega arith

below_at : (t : ℕ) (aa : List Node) → Below t aa → (i : ℕ) → i < length aa → (at aa i).key < t
below_at t [] p i l = absurd (not-suc-le-zero l)
below_at t (y ∷ ys) p zero l = p.0
below_at t (y ∷ ys) p (suc i) l = below_at t ys p.1 i (omega arith)

pub above_at : (t : ℕ) (bb : List Node) → Above t bb → (i : ℕ) → i < length bb → t ≤ (at bb i).key
above_at t [] p i l = absurd (not-suc-le-zero l)
above_at t (y ∷ ys) p zero l = p.0
above_at t (y ∷ ys) p (suc i) l = above_at t ys p.1 i (omega arith)

-- keys at an index, of a list whose keys never fall
pub key_below : (t : ℕ) (xs : List Node) → Sorted xs → (i : ℕ) → i < smaller t xs → (at xs i).key < t
key_below t xs s i l =
    let r = smaller t xs in
    let b = below_at t (take r xs) (below-smaller t xs) i (omega (arith, length-take-le r xs (smaller_le t xs))) in
    rw (get_or-take r xs i (node N 0 0) l) at b

pub key_above : (t : ℕ) (xs : List Node) → Sorted xs → (i : ℕ) → smaller t xs ≤ i → i < length xs → t ≤ (at xs i).key
key_above t xs s i l k =
    let r = smaller t xs in
    let b = above_at t (drop r xs) (above-smaller t xs s) (i - r) (omega (arith, length-drop r xs)) in
    let e : r + (i - r) ≡ i = omega arith in
    rw (get_or-drop r xs (i - r) (node N 0 0), e) at b

-- where stage h ends: at the last node of height h or more among those of smaller keys
pub stop_is : (M t : ℕ) (xs : List Node) → Sorted xs → (h : ℕ) → h ≤ M → get_or (stops M t 0 xs) (M - h) 0 ≡ last h (take (smaller t xs) xs)
stop_is M t xs s h l =
    let r = smaller t xs in
    (rw (take-append-drop r xs) at (stops-split M h t 0 l (take r xs) (drop r xs) (below-smaller t xs) (above-smaller t xs s))) ∙ zero-add (last h (take r xs))

-- the precursor that the walk finds at level l: stage h = l + 1
pub precursor_is : (M t : ℕ) (xs : List Node) → Sorted xs → (h : ℕ) → h ≤ M → LastBelow h t xs (get_or (stops M t 0 xs) (M - h) 0)
precursor_is M t xs s h l =
    let r = smaller t xs in
    let a = take r xs in
    let len = length-take-le r xs (smaller_le t xs) in
    let m = last_le h a in
    let n = smaller_le t xs in
    rw (stop_is M t xs s h l) (record {
      within = omega arith;
      tall_enough = λ i q. rw (get_or-take r xs i (node N 0 0) (omega arith)) at (last-node h a i q);
      below = λ i q. key_below t xs s i (omega arith);
      none_after = λ i q k w. elim (test r i) [
        | hit g p ↦ key_above t xs s i p k
        | miss g p ↦
            let b = rw (get_or-take r xs i (node N 0 0) p) at (last_none h a i q (omega arith)) in
            omega arith
      ];
    })

key_true : (t : ℕ) (ys : List Node) → key_is t ys ≡ true → (0 < length ys) × ((at ys 0).key ≡ t)
key_true t [] e = absurd (false≢true e)
key_true t (y ∷ ys) e = (omega arith, eqb-true y.key t e)

key_false : (t : ℕ) (ys : List Node) → key_is t ys ≡ false → 0 < length ys → (at ys 0).key ≡ t → ⊥
key_false t [] e l = absurd (not-suc-le-zero l)
key_false t (y ∷ ys) e l = eqb-false y.key t e

pub found-is : (t : ℕ) (xs : List Node) → Sorted xs → key_is t (drop (smaller t xs) xs) ≡ true → FoundFirst t xs (smaller t xs)
found-is t xs s e =
    let r = smaller t xs in
    let k = key_true t (drop r xs) e in
    let q = rw (get_or-drop r xs 0 (node N 0 0), add-zero r) at k.1 in
    record { within = omega (arith, k.0, length-drop r xs); equal = q; first = λ i l. key_below t xs s i l }

sorted-at : (xs : List Node) → Sorted xs → (i j : ℕ) → i ≤ j → j < length xs → (at xs i).key ≤ (at xs j).key
sorted-at [] s i j l k = absurd (not-suc-le-zero k)
sorted-at (y ∷ ys) s zero zero l k = omega arith
sorted-at (y ∷ ys) s zero (suc j) l k = above_at y.key ys s.0 j (omega arith)
sorted-at (y ∷ ys) s (suc i) zero l k = absurd (not-suc-le-zero l)
sorted-at (y ∷ ys) s (suc i) (suc j) l k = sorted-at ys s.1 i j (omega arith) (omega arith)

pub missing_is : (t : ℕ) (xs : List Node) → Sorted xs → key_is t (drop (smaller t xs) xs) ≡ false → (i : ℕ) → i < length xs → (at xs i).key ≡ t → ⊥
missing_is t xs s e i l q =
    let r = smaller t xs in
    elim (test r i) [
      | hit f p ↦
          let a = key_above t xs s r (omega arith) (omega arith) in
          let b = sorted-at xs s r i p l in
          let c : (at xs r).key ≡ t = omega arith in
          key_false t (drop r xs) e (omega (arith, length-drop r xs)) (rw (get_or-drop r xs 0 (node N 0 0), add-zero r) c)
      | miss f p ↦ omega (arith, key_below t xs s i p)
    ]
