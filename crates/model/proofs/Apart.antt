-- The check without scratch memory: chains that follow one `next`, end at N, and have different last slots share no slot; if their lengths add up to
-- the number of node slots, each node slot stands in exactly one. Rests on specs/Passes (how often a slot stands).
use Prim.Native.Nat.{ℕ, zero, suc, ◌+◌, ◌≤◌, ◌<◌}
use mathlib.Core.Path.{◌≡◌, refl, sym, ap, ◌∙◌}
use mathlib.Core.Bool.{cond}
use mathlib.Core.List.{List, [], ◌∷◌, ◌++◌}
use lib.Dec.{eqb}
use lib.ListN.{length, length-append}
use native.Mathlib.Omega.{arith}
use borrow.Author.Tests.{eq-eqb, ne_eqb}
use Rattle.model.specs.Nodes.{N}
use Rattle.model.specs.Passes.{times_free}
use Rattle.model.proofs.Builds.{in_free_lem}
use Rattle.model.proofs.Tests.{same, other, same?, hit, miss, test}

abbrev pub first : List ℕ → ℕ
first [] = N
first (x ∷ xs) = x

abbrev pub ends_at : List ℕ → ℕ
ends_at [] = N
ends_at (x ∷ []) = x
ends_at (x ∷ y ∷ xs) = ends_at (y ∷ xs)

-- every slot is one of the C from L on
abbrev pub InRange : ℕ → ℕ → List ℕ → Type 0
InRange L C [] = Unit {0}
InRange L C (x ∷ xs) = (L ≤ x) × (x < L + C) × InRange L C xs

module _ (nx : ℕ → ℕ) where
  -- the list follows `nx` and ends at N
  abbrev pub Stretch : List ℕ → Type 0
  Stretch [] = Unit {0}
  Stretch (x ∷ xs) = (nx x ≡ first xs) × (x < N) × Stretch xs

  run_tail : (x : ℕ) (xs ys : List ℕ) → Stretch (x ∷ xs) → Stretch (x ∷ ys) → xs ≡ ys
  run_tail x [] [] p q = refl
  run_tail x [] (y ∷ ys) p q = absurd (omega (arith, p.0, q.0, q.2.1))
  run_tail x (z ∷ xs) [] p q = absurd (omega (arith, p.0, q.0, p.2.1))
  run_tail x (z ∷ xs) (y ∷ ys) p q =
      let e : z ≡ y = sym p.0 ∙ q.0 in
      let r = rw e at p.2 in
      rw (e, run_tail y xs ys r q.2) refl

  run_drop : (aa bb : List ℕ) → Stretch (aa ++ bb) → Stretch bb
  run_drop [] bb p = p
  run_drop (a ∷ aa) bb p = run_drop aa bb p.2

  -- no slot twice in one chain
  run-once : (x : ℕ) (xs : List ℕ) → Stretch xs → times_free x xs ≤ 1
  run-once x [] p = omega arith
  run-once x (y ∷ xs) p = elim (same? y x) [
    | other e q ↦ rw e (run-once x xs p.2)
    | same e q ↦ elim (test 1 (times_free x xs)) [
      | miss f r ↦ rw e (omega arith)
      | hit f r ↦
          let i = in_free_lem x xs r in
          let t = run_tail x xs i.1 (rw q at p) (run_drop i.0 (x ∷ i.1) (rw i.2 at p.2)) in
          absurd (omega (arith, ap length t, ap length i.2, length-append i.0 (x ∷ i.1)))
    ]
  ]

  ends_mid : (aa : List ℕ) (x : ℕ) (bb : List ℕ) → ends_at (aa ++ x ∷ bb) ≡ ends_at (x ∷ bb)
  ends_mid [] x bb = refl
  ends_mid (a ∷ []) x bb = refl
  ends_mid (a ∷ c ∷ aa) x bb = ends_mid (c ∷ aa) x bb

  -- a slot in two chains: they end alike
  run_meet : (x : ℕ) (xs ys : List ℕ) → Stretch xs → Stretch ys → 1 ≤ times_free x xs → 1 ≤ times_free x ys → ends_at xs ≡ ends_at ys
  run_meet x xs ys p q l k =
      let i = in_free_lem x xs l in
      let j = in_free_lem x ys k in
      let t = run_tail x i.1 j.1 (run_drop i.0 (x ∷ i.1) (rw i.2 at p)) (run_drop j.0 (x ∷ j.1) (rw j.2 at q)) in
      rw (i.2, j.2, ends_mid i.0 x i.1, ends_mid j.0 x j.1, t) refl

  run_end : (x : ℕ) (xs : List ℕ) → Stretch xs → 1 ≤ times_free x xs → ends_at xs < N
  run_end x [] p l = absurd (omega arith)
  run_end x (y ∷ []) p l = p.1
  run_end x (y ∷ z ∷ xs) p l = run_end z (z ∷ xs) p.2 (rw (eq-eqb z z refl) (omega arith))

  abbrev pub Runs : List (List ℕ) → Type 0
  Runs [] = Unit {0}
  Runs (c ∷ cs) = Stretch c × Runs cs

abbrev pub occ_all : ℕ → List (List ℕ) → ℕ
occ_all x [] = zero
occ_all x (c ∷ cs) = times_free x c + occ_all x cs

-- no other chain ends alike, but at N: empty chains do
abbrev pub Other : ℕ → List (List ℕ) → Type 0
Other e [] = Unit {0}
Other e (c ∷ cs) = (e ≡ ends_at c → e ≡ N) × Other e cs

abbrev pub Apart : List (List ℕ) → Type 0
Apart [] = Unit {0}
Apart (c ∷ cs) = Other (ends_at c) cs × Apart cs

module _ (nx : ℕ → ℕ) where
  apart_from : (x : ℕ) (c : List ℕ) (cs : List (List ℕ)) → Stretch nx c → Runs nx cs → Other (ends_at c) cs → 1 ≤ times_free x c → occ_all x cs ≡ 0
  apart_from x c [] p q o l = refl
  apart_from x c (d ∷ cs) p q o l = elim (test 1 (times_free x d)) [
    | hit e k ↦ absurd (omega (arith, o.0 (run_meet nx x c d p q.0 l k), run_end nx x c p l))
    | miss e k ↦ omega (arith, apart_from x c cs p q.1 o.1 l)
  ]

  pub apart-once : (x : ℕ) (cs : List (List ℕ)) → Runs nx cs → Apart cs → occ_all x cs ≤ 1
  apart-once x [] p o = omega arith
  apart-once x (c ∷ cs) p o = elim (test 1 (times_free x c)) [
    | hit e k ↦ omega (arith, run-once nx x c p.0, apart_from x c cs p.0 p.1 o.0 k)
    | miss e k ↦ omega (arith, apart-once x cs p.1 o.1)
  ]

-- ---- counting ----
abbrev pub sum : (ℕ → ℕ) → ℕ → ℕ → ℕ
sum f s zero = zero
sum f s (suc n) = f s + sum f (suc s) n

pub sum_le : (f : ℕ → ℕ) → ((s : ℕ) → f s ≤ 1) → (s n : ℕ) → sum f s n ≤ n
sum_le f h s zero = omega arith
sum_le f h s (suc n) = omega (arith, h s, sum_le f h (suc s) n)

pub sum-full : (f : ℕ → ℕ) → ((s : ℕ) → f s ≤ 1) → (s n : ℕ) → sum f s n ≡ n → (j : ℕ) → s ≤ j → j < s + n → f j ≡ 1
sum-full f h s zero e j l k = absurd (omega arith)
sum-full f h s (suc n) e j l k = elim (test j s) [
  | hit g p ↦ let q : j ≡ s = omega arith in rw q (omega (arith, h s, sum_le f h (suc s) n))
  | miss g p ↦ sum-full f h (suc s) n (omega (arith, h s, sum_le f h (suc s) n)) j (omega arith) (omega arith)
]

pub sum_add : (f g : ℕ → ℕ) (s n : ℕ) → sum (λ k. f k + g k) s n ≡ sum f s n + sum g s n
sum_add f g s zero = omega arith
sum_add f g s (suc n) = omega (arith, sum_add f g (suc s) n)

-- the one place of x
unfoldable pub one_at : ℕ → ℕ → ℕ
one_at x s = cond (eqb x s) 1 0

pub sum-none : (x s n : ℕ) → x < s → sum (one_at x) s n ≡ 0
unfolding one_at
sum-none x s zero l = refl
sum-none x s (suc n) l = rw (ne_eqb x s (λ e. omega arith)) (omega (arith, sum-none x (suc s) n (omega arith)))

pub sum_one : (x s n : ℕ) → s ≤ x → x < s + n → sum (one_at x) s n ≡ 1
unfolding one_at
sum_one x s zero l k = absurd (omega arith)
sum_one x s (suc n) l k = elim (same? x s) [
  | same e p ↦ rw e (omega (arith, sum-none x (suc s) n (omega arith)))
  | other e p ↦ rw e (omega (arith, sum_one x (suc s) n (omega arith) (omega arith)))
]

pub sum_ext : (f g : ℕ → ℕ) → ((k : ℕ) → f k ≡ g k) → (s n : ℕ) → sum f s n ≡ sum g s n
sum_ext f g h s zero = refl
sum_ext f g h s (suc n) = omega (arith, h s, sum_ext f g h (suc s) n)

pub sum-zero : (s n : ℕ) → sum (λ k. 0) s n ≡ 0
sum-zero s zero = refl
sum-zero s (suc n) = omega (arith, sum-zero (suc s) n)

pub times_free-one : (x : ℕ) (xs : List ℕ) (s : ℕ) → times_free s (x ∷ xs) ≡ one_at x s + times_free s xs
unfolding one_at
times_free-one x xs s = elim (same? x s) [ same e p ↦ rw e (omega arith) | other e p ↦ rw e (omega arith) ]

pub sum-chain : (L C : ℕ) (xs : List ℕ) → InRange L C xs → sum (λ s. times_free s xs) L C ≡ length xs
sum-chain L C [] w = sum-zero L C
sum-chain L C (x ∷ xs) w =
    sum_ext (λ s. times_free s (x ∷ xs)) (λ s. one_at x s + times_free s xs) (times_free-one x xs) L C
    ∙ sum_add (one_at x) (λ s. times_free s xs) L C ∙ omega (arith, sum_one x L C w.0 w.1, sum-chain L C xs w.2)

abbrev pub Withins : ℕ → ℕ → List (List ℕ) → Type 0
Withins L C [] = Unit {0}
Withins L C (c ∷ cs) = InRange L C c × Withins L C cs

abbrev pub total : List (List ℕ) → ℕ
total [] = zero
total (c ∷ cs) = length c + total cs

sum_chains : (L C : ℕ) (cs : List (List ℕ)) → Withins L C cs → sum (λ s. occ_all s cs) L C ≡ total cs
sum_chains L C [] w = sum-zero L C
sum_chains L C (c ∷ cs) w = sum_add (λ s. times_free s c) (λ s. occ_all s cs) L C ∙ omega (arith, sum-chain L C c w.0, sum_chains L C cs w.1)

-- each node slot stands in exactly one chain
pub each-once : (nx : ℕ → ℕ) (L C : ℕ) (cs : List (List ℕ)) → Runs nx cs → Apart cs → Withins L C cs → total cs ≡ C → (s : ℕ) → L ≤ s → s < L + C → occ_all s cs ≡ 1
each-once nx L C cs p o w e = sum-full (λ s. occ_all s cs) (λ s. apart-once nx s cs p o) L C (sum_chains L C cs w ∙ e)
