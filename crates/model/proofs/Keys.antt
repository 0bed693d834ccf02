-- Key sequences: a list whose keys never fall is known by how often each key stands in it, and an append keeps that. Rests on Ordering.
use Prim.Native.Nat.{ℕ, suc, ◌+◌, ◌≤◌, ◌<◌}
use mathlib.Core.Path.{◌≡◌, refl, sym, ap, ap₂, ◌∙◌}
use mathlib.Core.List.{List, [], ◌∷◌, ◌++◌}
use lib.ListN.{take, drop, take-append-drop}
use native.Mathlib.Omega.{arith}
use native.Mathlib.Nat.{le_antisymm}
use borrow.Author.Tests.{eq-eqb, ne_eqb}
use Rattle.model.specs.Claims.{often}
use Rattle.model.specs.Lists.{insert, merge_in, append}
use Rattle.model.specs.Nodes.{keys, Node, smaller, Above, Sorted}
use Rattle.model.proofs.Ordering.{by_case}
pub use Rattle.model.proofs.Ordering.{sorted-append}
use Rattle.model.proofs.Tests.{same, other, same?, hit, miss, test}

often-above : (k t : ℕ) (ys : List Node) → k < t → Above t ys → often k ys ≡ 0
often-above k t [] l q = refl
often-above k t (y ∷ ys) l q = elim (same? y.key k) [ same e p ↦ absurd (omega (arith, q.0)) | other e p ↦ rw e (often-above k t ys l q.1) ]

often_self : (y : Node) (ys : List Node) → often y.key (y ∷ ys) ≡ suc (often y.key ys)
often_self y ys = rw (eq-eqb y.key y.key refl) refl

often_le : (k : ℕ) (y : Node) (ys : List Node) → Above y.key ys → 1 ≤ often k (y ∷ ys) → y.key ≤ k
often_le k y ys q l = elim (test y.key k) [
  | hit e p ↦ p
  | miss e p ↦ absurd (omega (arith, often-above k y.key (y ∷ ys) p (omega arith, q), l))
]

pub keys_unique : (xs ys : List Node) → Sorted xs → Sorted ys → ((k : ℕ) → often k xs ≡ often k ys) → keys xs ≡ keys ys
keys_unique [] [] s r f = refl
keys_unique [] (y ∷ ys) s r f = absurd (omega (arith, f y.key, often_self y ys))
keys_unique (x ∷ xs) [] s r f = absurd (omega (arith, f x.key, often_self x xs))
keys_unique (x ∷ xs) (y ∷ ys) s r f =
    let e : x.key ≡ y.key = le_antisymm
    (often_le y.key x xs s.0 (omega (arith, f y.key, often_self y ys)))
    (often_le x.key y ys r.0 (omega (arith, f x.key, often_self x xs))) in
    ap₂ (λ (k : ℕ) (t : List ℕ). k ∷ t) e (keys_unique xs ys s.1 r.1 (λ k. elim (same? x.key k) [
      | same g p ↦ let h : y.key ≡ k = omega arith in omega (arith, rw (g, eq-eqb y.key k h) at (f k))
      | other g p ↦ rw (g, ne_eqb y.key k (λ h. p (e ∙ h))) at (f k)
    ]))

often-append : (k : ℕ) (aa bb : List Node) → often k (aa ++ bb) ≡ often k aa + often k bb
often-append k [] bb = omega arith
often-append k (a ∷ aa) bb = elim (same? a.key k) [
  | same e p ↦ rw e (omega (arith, often-append k aa bb))
  | other e p ↦ rw e (often-append k aa bb)
]

often-insert : (k : ℕ) (n : Node) (xs : List Node) → often k (insert n xs) ≡ often k (n ∷ []) + often k xs
often-insert k n xs =
    let p = smaller n.key xs in
    let c : often k (take p xs) + often k (drop p xs) ≡ often k xs = sym (often-append k (take p xs) (drop p xs)) ∙ ap (often k) (take-append-drop p xs) in
    often-append k (take p xs) (n ∷ drop p xs) ∙ elim (same? n.key k) [ same e q ↦ rw e (omega arith) | other e q ↦ rw e (omega arith) ]

often_merge : (k : ℕ) (bb aa : List Node) → often k (merge_in bb aa) ≡ often k aa + often k bb
often_merge k [] aa = omega arith
often_merge k (b ∷ bb) aa = often_merge k bb (insert b aa) ∙ elim (same? b.key k) [
  | same e q ↦ rw e (omega (arith, rw e at (often-insert k b aa)))
  | other e q ↦ rw e (omega (arith, rw e at (often-insert k b aa)))
]

pub often-join : (k : ℕ) (aa bb : List Node) → often k (append aa bb) ≡ often k aa + often k bb
often-join k aa [] = omega arith
often-join k [] (b ∷ bb) = omega arith
often-join k (a ∷ aa) (b ∷ bb) =
    by_case (λ cs. often k cs ≡ often k (a ∷ aa) + often k (b ∷ bb)) a aa b bb
    (λ e. often-append k (a ∷ aa) (b ∷ bb)) (λ e. omega (arith, often-append k (b ∷ bb) (a ∷ aa))) (often_merge k (b ∷ bb) (a ∷ aa))

-- an append is the same either way round, and in either grouping
pub append_comm : (aa bb : List Node) → Sorted aa → Sorted bb → keys (append aa bb) ≡ keys (append bb aa)
append_comm aa bb s r = keys_unique (append aa bb) (append bb aa) (sorted-append aa bb s r) (sorted-append bb aa r s) (λ k. omega (arith, often-join k aa bb, often-join k bb aa))

pub append_assoc_keys : (aa bb cc : List Node) → Sorted aa → Sorted bb → Sorted cc → keys (append (append aa bb) cc) ≡ keys (append aa (append bb cc))
append_assoc_keys aa bb cc s r u =
    keys_unique (append (append aa bb) cc) (append aa (append bb cc)) (sorted-append (append aa bb) cc (sorted-append aa bb s r) u)
    (sorted-append aa (append bb cc) s (sorted-append bb cc r u))
    (λ k. omega (arith, often-join k (append aa bb) cc, often-join k aa bb, often-join k aa (append bb cc), often-join k bb cc))
