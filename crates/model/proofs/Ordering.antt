-- The lists that the operations make: in order, no higher than before, in the same slots. Lists of nodes alone, no models.
-- Rests on specs/Lists and Walk (keys that are t or more).
use Prim.Native.Nat.{ℕ, zero, suc, ◌+◌, ◌≤◌}
use mathlib.Core.Path.{◌≡◌, refl, sym, ap, ◌∙◌}
use mathlib.Core.List.{List, [], ◌∷◌, ◌++◌}
use lib.ListN.{take, drop, take-append-drop}
use native.Mathlib.Omega.{arith}
use Rattle.model.specs.Lists.{insert, remove_at, freed, append, merge_in, last_key, level_from}
use Rattle.model.specs.Nodes.{Node, smaller, Above, Sorted, Low}
use Rattle.model.specs.Passes.{times, times_free}
use Rattle.model.proofs.Tests.{same, other, same?, hit, miss, test}
use Rattle.model.proofs.Walk.{above_trans}

-- ---- how often a slot stands ----
pub times-append : (s : ℕ) (aa bb : List Node) → times s (aa ++ bb) ≡ times s aa + times s bb
times-append s [] bb = omega arith
times-append s (a ∷ aa) bb = elim (same? a.slot s) [
  | same e p ↦ rw e (omega (arith, times-append s aa bb))
  | other e p ↦ rw e (times-append s aa bb)
]

pub times_cut : (s i : ℕ) (xs : List Node) → times s (take i xs) + times s (drop i xs) ≡ times s xs
times_cut s i xs = sym (times-append s (take i xs) (drop i xs)) ∙ ap (times s) (take-append-drop i xs)

pub times-insert : (s : ℕ) (n : Node) (xs : List Node) → times s (insert n xs) ≡ times s (n ∷ []) + times s xs
times-insert s n xs =
    let p = smaller n.key xs in
    let c = times_cut s p xs in
    times-append s (take p xs) (n ∷ drop p xs) ∙ elim (same? n.slot s) [ same e q ↦ rw e (omega arith) | other e q ↦ rw e (omega arith) ]

pub times_self : (s : ℕ) (y : Node) → times s (y ∷ []) ≡ times_free s (y.slot ∷ [])
times_self s y = elim (same? y.slot s) [ same e p ↦ rw e refl | other e p ↦ rw e refl ]

pub times_free_cons : (s f : ℕ) (fs : List ℕ) → times_free s (f ∷ fs) ≡ times_free s (f ∷ []) + times_free s fs
times_free_cons s f fs = elim (same? f s) [ same e p ↦ rw e (omega arith) | other e p ↦ rw e (omega arith) ]

pub times-freed : (s : ℕ) (ys : List Node) (fs : List ℕ) → times_free s (freed ys fs) ≡ times s ys + times_free s fs
times-freed s [] fs = omega arith
times-freed s (y ∷ ys) fs = times-freed s ys (y.slot ∷ fs) ∙ elim (same? y.slot s) [ same e p ↦ rw e (omega arith) | other e p ↦ rw e refl ]

-- ---- heights ----
pub low-append : (h : ℕ) (aa bb : List Node) → Low h aa → Low h bb → Low h (aa ++ bb)
low-append h [] bb p q = q
low-append h (a ∷ aa) bb p q = (p.0, low-append h aa bb p.1 q)

pub low_cut : (h i : ℕ) (xs : List Node) → Low h xs → Low h (take i xs) × Low h (drop i xs)
low_cut h zero xs w = (tt, w)
low_cut h (suc i) [] w = (tt, tt)
low_cut h (suc i) (x ∷ xs) w = let r = low_cut h i xs w.1 in ((w.0, r.0), r.1)

pub low-insert : (M : ℕ) (n : Node) (xs : List Node) → n.height ≤ M → Low M xs → Low M (insert n xs)
low-insert M n xs l w =
    let p = smaller n.key xs in
    low-append M (take p xs) (n ∷ drop p xs) (low_cut M p xs w).0 (l, (low_cut M p xs w).1)

-- ---- order ----
above-insert : (t : ℕ) (n : Node) (xs : List Node) → t ≤ n.key → Above t xs → Above t (insert n xs)
above-insert t n [] l q = (l, tt)
above-insert t n (y ∷ ys) l q = elim (test (suc y.key) n.key) [
  | hit e p ↦ rw e (q.0, above-insert t n ys l q.1)
  | miss e p ↦ rw e (l, q)
]

pub sorted_insert : (n : Node) (xs : List Node) → Sorted xs → Sorted (insert n xs)
sorted_insert n [] s = (tt, tt)
sorted_insert n (y ∷ ys) s = elim (test (suc y.key) n.key) [
  | hit e p ↦ rw e (above-insert y.key n ys (omega arith) s.0, sorted_insert n ys s.1)
  | miss e p ↦ rw e ((omega arith, above_trans (omega arith) ys s.0), s)
]

above_cut : (t i : ℕ) (xs : List Node) → Above t xs → Above t (take i xs) × Above t (drop i xs)
above_cut t zero xs w = (tt, w)
above_cut t (suc i) [] w = (tt, tt)
above_cut t (suc i) (x ∷ xs) w = let r = above_cut t i xs w.1 in ((w.0, r.0), r.1)

pub sorted_cut : (i : ℕ) (xs : List Node) → Sorted xs → Sorted (take i xs) × Sorted (drop i xs)
sorted_cut zero xs w = (tt, w)
sorted_cut (suc i) [] w = (tt, tt)
sorted_cut (suc i) (x ∷ xs) w = let r = sorted_cut i xs w.1 in (((above_cut x.key i xs w.0).0, r.0), r.1)

above-append : (t : ℕ) (aa bb : List Node) → Above t aa → Above t bb → Above t (aa ++ bb)
above-append t [] bb p q = q
above-append t (a ∷ aa) bb p q = (p.0, above-append t aa bb p.1 q)

-- b follows a where the last key of a is at most the first of b
pub sorted-join : (aa : List Node) (b : Node) (bb : List Node) → Sorted aa → Sorted (b ∷ bb) → last_key aa ≤ b.key → Sorted (aa ++ b ∷ bb)
sorted-join [] b bb p q l = q
sorted-join (a ∷ []) b bb p q l = ((l, above_trans l bb q.0), q)
sorted-join (a ∷ c ∷ aa) b bb p q l =
    (above-append a.key (c ∷ aa) (b ∷ bb) p.0 (k, above_trans k bb q.0), sorted-join (c ∷ aa) b bb p.1 q l)
  where
    up : (x : Node) (xs : List Node) → Sorted (x ∷ xs) → x.key ≤ last_key (x ∷ xs)
    up x [] s = omega arith
    up x (z ∷ xs) s = omega (arith, s.0.0, up z xs s.1)

    k : a.key ≤ b.key
    k = omega (arith, p.0.0, up c aa p.1, l)

pub sorted_remove : (i : ℕ) (xs : List Node) → Sorted xs → Sorted (remove_at i xs)
sorted_remove zero [] s = s
sorted_remove zero (x ∷ xs) s = s.1
sorted_remove (suc i) [] s = s
sorted_remove (suc i) (x ∷ xs) s =
    (above-append x.key (take i xs) (drop (suc i) xs) (above_cut x.key i xs s.0).0 (above_cut x.key (suc i) xs s.0).1, sorted_remove i xs s.1)

-- ---- levelling ----
above_level : (M t k : ℕ) (xs : List Node) → Above t xs → Above t (level_from M k xs)
above_level M t k [] q = q
above_level M t k (x ∷ xs) q = (q.0, above_level M t (suc k) xs q.1)

pub sorted_level : (M k : ℕ) (xs : List Node) → Sorted xs → Sorted (level_from M k xs)
sorted_level M k [] q = q
sorted_level M k (x ∷ xs) q = (above_level M x.key (suc k) xs q.0, sorted_level M (suc k) xs q.1)

pub times_level : (M s k : ℕ) (xs : List Node) → times s (level_from M k xs) ≡ times s xs
times_level M s k [] = refl
times_level M s k (x ∷ xs) = rw (times_level M s (suc k) xs) refl

-- ---- append ----
-- of two lists that are not empty: b after a, b before a, or b merged into a
pub by_case : (P : List Node → Type 0) (a : Node) (aa : List Node) (b : Node) (bb : List Node) → (last_key (a ∷ aa) ≤ b.key → P ((a ∷ aa) ++ (b ∷ bb)))
    → (last_key (b ∷ bb) ≤ a.key → P ((b ∷ bb) ++ (a ∷ aa))) → P (merge_in (b ∷ bb) (a ∷ aa)) → P (append (a ∷ aa) (b ∷ bb))
by_case P a aa b bb after before merged = elim (test (last_key (a ∷ aa)) b.key) [
  | hit e p ↦ rw e (after p)
  | miss e p ↦ elim (test (last_key (b ∷ bb)) a.key) [ hit f q ↦ rw (e, f) (before q) | miss f q ↦ rw (e, f) merged ]
]

sorted_merge : (bb aa : List Node) → Sorted aa → Sorted (merge_in bb aa)
sorted_merge [] aa s = s
sorted_merge (b ∷ bb) aa s = sorted_merge bb (insert b aa) (sorted_insert b aa s)

pub sorted-append : (aa bb : List Node) → Sorted aa → Sorted bb → Sorted (append aa bb)
sorted-append aa [] s r = s
sorted-append [] (b ∷ bb) s r = r
sorted-append (a ∷ aa) (b ∷ bb) s r = by_case Sorted a aa b bb (sorted-join (a ∷ aa) b bb s r) (sorted-join (b ∷ bb) a aa r s) (sorted_merge (b ∷ bb) (a ∷ aa) s)

times_merge : (s : ℕ) (bb aa : List Node) → times s (merge_in bb aa) ≡ times s aa + times s bb
times_merge s [] aa = omega arith
times_merge s (b ∷ bb) aa = times_merge s bb (insert b aa) ∙ elim (same? b.slot s) [
  | same e q ↦ rw e (omega (arith, rw e at (times-insert s b aa)))
  | other e q ↦ rw e (omega (arith, rw e at (times-insert s b aa)))
]

low_merge : (M : ℕ) (bb aa : List Node) → Low M aa → Low M bb → Low M (merge_in bb aa)
low_merge M [] aa w u = w
low_merge M (b ∷ bb) aa w u = low_merge M bb (insert b aa) (low-insert M b aa u.0 w) u.1

low-join : (M : ℕ) (aa bb : List Node) → Low M aa → Low M bb → Low M (append aa bb)
low-join M aa [] w u = w
low-join M [] (b ∷ bb) w u = u
low-join M (a ∷ aa) (b ∷ bb) w u =
    by_case (λ cs. Low M cs) a aa b bb (λ e. low-append M (a ∷ aa) (b ∷ bb) w u) (λ e. low-append M (b ∷ bb) (a ∷ aa) u w) (low_merge M (b ∷ bb) (a ∷ aa) w u)

times-join : (s : ℕ) (aa bb : List Node) → times s (append aa bb) ≡ times s aa + times s bb
times-join s aa [] = omega arith
times-join s [] (b ∷ bb) = omega arith
times-join s (a ∷ aa) (b ∷ bb) =
    by_case (λ cs. times s cs ≡ times s (a ∷ aa) + times s (b ∷ bb)) a aa b bb (λ e. times-append s (a ∷ aa) (b ∷ bb)) (λ e. omega (arith, times-append s (b ∷ bb) (a ∷ aa)))
    (times_merge s (b ∷ bb) (a ∷ aa))

-- what an append makes: in order, no higher, and in the same slots
pub record Made (M : ℕ) (aa bb cc : List Node) : Type 0 where
  pub sorted : Sorted cc
  pub low : Low M cc
  pub slots : (s : ℕ) → times s cc ≡ times s aa + times s bb

pub append-made : (M : ℕ) (aa bb : List Node) → Sorted aa → Sorted bb → Low M aa → Low M bb → Made M aa bb (append aa bb)
append-made M aa bb s r w u = record { sorted = sorted-append aa bb s r; low = low-join M aa bb w u; slots = λ k. times-join k aa bb }
