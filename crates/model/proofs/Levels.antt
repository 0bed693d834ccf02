-- The heights that levelling gives, and the gaps of a levelled list. Rests on Gap.
use Prim.Native.Nat.{ℕ, zero, suc, ◌+◌, ◌*◌, ◌/◌, ◌%◌, ◌^◌, ◌≤◌, ◌<◌}
use mathlib.Core.Path.{◌≡◌, refl, sym}
use mathlib.Core.Bool.{true, false}
use mathlib.Core.List.{List, [], ◌∷◌}
use lib.Dec.{eqb}
use lib.ListN.{length, take}
use lib.Pow.{pow_pos}
use native.Mathlib.Nat.{not-suc-le-zero, suc_inj, suc-ne-zero, pow-succ', max-le, mul-le-mul_right}
use native.Mathlib.Decide.{ℕ_discrete}
use native.Mathlib.Omega.{arith}
use borrow.Author.Tests.{eq-eqb, ne_eqb, le-leb}
use Rattle.model.specs.Gaps.{Levelled, gap_at, gap}
use Rattle.model.specs.Lists.{twos, level_from}
use Rattle.model.specs.Nodes.{Node, Sorted, Low}
use Rattle.model.specs.Closed.{tally}
use Rattle.model.proofs.Gap.{tally-gap}
use Rattle.model.proofs.Tests.{hit, miss, test}

-- a number is even or odd, with the test's value
data Parity (k : ℕ) : Type 0 where
  even : eqb (k % 2) 0 ≡ true → k ≡ 2 * (k / 2) → Parity k
  odd : eqb (k % 2) 0 ≡ false → k ≡ 2 * (k / 2) + 1 → Parity k

parity : (k : ℕ) → Parity k
parity k = elim (ℕ_discrete (k % 2) 0) [ yes e ↦ even (eq-eqb (k % 2) 0 e) (omega arith) | no n ↦ odd (ne_eqb (k % 2) 0 n) (omega arith) ]

pub twos_le : (M k : ℕ) → twos M k ≤ M
twos_le zero k = omega arith
twos_le (suc M) k = elim (parity k) [ even e p ↦ rw e (omega (arith, twos_le M (k / 2))) | odd e p ↦ rw e (omega arith) ]

-- between an odd multiple of 2 ^ h and the next multiple the heights are below h
twos-between : (M h m k : ℕ) → (2 * m + 1) * 2 ^ h < k → k < (2 * m + 2) * 2 ^ h → twos M k < h
twos-between M zero m k l u = omega arith
twos-between zero (suc h) m k l u = omega arith
twos-between (suc M) (suc h) m k l u =
    elim (parity k) [
      | even e p ↦ rw e (omega (arith, twos-between M h m (k / 2) (omega (arith, rw (pow-succ' 2 h) at l)) (omega (arith, rw (pow-succ' 2 h) at u))))
      | odd e p ↦ rw e (omega arith)
    ]

twos_even : (M h m k : ℕ) → h < M → k ≡ (2 * m + 2) * 2 ^ h → h < twos M k
twos_even zero h m k l e = absurd (not-suc-le-zero l)
twos_even (suc M) zero m k l e = elim (parity k) [ even f p ↦ rw f (omega arith) | odd f p ↦ omega arith ]
twos_even (suc M) (suc h) m k l e =
    let g = rw (pow-succ' 2 h) at e in
    elim (parity k) [ even f p ↦ rw f (omega (arith, twos_even M h m (k / 2) (omega arith) (omega arith))) | odd f p ↦ omega arith ]

-- "the number of times 2 divides k, at most M": an odd multiple of 2 ^ h where h is below M, any multiple of it at M
pub twos_odd : (M h k : ℕ) → h < M → twos M k ≡ h → (m : ℕ) × (k ≡ (2 * m + 1) * 2 ^ h)
twos_odd zero h k l e = absurd (not-suc-le-zero l)
twos_odd (suc M) zero k l e = elim (parity k) [ even f p ↦ absurd (suc-ne-zero (twos M (k / 2)) (rw f at e)) | odd f p ↦ (k / 2, omega arith) ]
twos_odd (suc M) (suc h) k l e = elim (parity k) [
  | even f p ↦
      let i = twos_odd M h (k / 2) (omega arith) (suc_inj (rw f at e)) in
      (i.0, rw (pow-succ' 2 h) (omega (arith, i.1)))
  | odd f p ↦ absurd (suc-ne-zero h (sym (rw f at e)))
]

pub twos_top : (M k : ℕ) → twos M k ≡ M → (m : ℕ) × (k ≡ m * 2 ^ M)
twos_top zero k e = (k, omega arith)
twos_top (suc M) k e = elim (parity k) [
  | even f p ↦
      let i = twos_top M (k / 2) (suc_inj (rw f at e)) in
      (i.0, rw (pow-succ' 2 M) (omega (arith, i.1)))
  | odd f p ↦ absurd (suc-ne-zero M (sym (rw f at e)))
]

-- the count so far before rank k: none, or one since the odd multiple of 2 ^ h at or before k
data Since (h k : ℕ) : ℕ → Type 0 where
  none : Since h k 0
  one : (m : ℕ) → (2 * m + 1) * 2 ^ h < k → k ≤ (2 * m + 2) * 2 ^ h → Since h k 1

since_le : {h k c : ℕ} → Since h k c → c ≤ 1
since_le none = omega arith
since_le (one m l u) = omega arith

since-same : {M h k c : ℕ} → h < M → twos M k ≡ h → Since h k c → Since h (suc k) (suc c)
since-same {M} {h} {k} l e none =
    let i = twos_odd M h k l e in
    one i.0 (omega (arith, i.1)) (omega (arith, i.1, pow_pos h))
since-same {M} {h} {k} l e (one m a u) = elim (test (suc k) ((2 * m + 2) * 2 ^ h)) [
  | hit f p ↦ absurd (omega (arith, twos-between M h m k a p))
  | miss f p ↦ absurd (omega (arith, twos_even M h m k l (omega arith)))
]

since-low : {M h k c : ℕ} → h < M → twos M k < h → Since h k c → Since h (suc k) c
since-low l e none = none
since-low {M} {h} {k} l e (one m a u) = one m (omega arith) (elim (test (suc k) ((2 * m + 2) * 2 ^ h)) [
  | hit f p ↦ p
  | miss f p ↦ omega (arith, twos_even M h m k l (omega arith))
])

gap-one : (M h k c : ℕ) → h < M → Since h k c → (xs : List Node) → Levelled M k xs → gap_at h c xs ≤ 1
gap-one M h k c l s [] w = since_le s
gap-one M h k c l s (y ∷ ys) w = elim (test h y.height) [
  | hit e p ↦ elim (test y.height h) [
    | hit f q ↦ rw (e, f) (gap-one M h (suc k) (suc c) l (since-same l (omega (arith, w.0)) s) ys w.1)
    | miss f q ↦ rw (e, f) (max-le (since_le s) (gap-one M h (suc k) 0 l none ys w.1))
  ]
  | miss e p ↦ rw e (gap-one M h (suc k) c l (since-low l (omega (arith, w.0)) s) ys w.1)
]

-- at height M, while the ranks are below 2 ^ (M + 1): one node at most, that of rank 2 ^ M
data Once (M k : ℕ) : ℕ → Type 0 where
  not_yet : Once M k 0
  once : 2 ^ M < k → Once M k 1

once_le : {M k c : ℕ} → Once M k c → c ≤ 1
once_le not_yet = omega arith
once_le (once l) = omega arith

once-same : {M k c : ℕ} → 0 < k → k < 2 ^ suc M → twos M k ≡ M → Once M k c → Once M (suc k) (suc c)
once-same {M} {k} z u e not_yet = once (pos (twos_top M k e).0 (twos_top M k e).1)
  where
    pos : (m : ℕ) → k ≡ m * 2 ^ M → 2 ^ M < suc k
    pos zero f = omega arith
    pos (suc m) f = omega arith
once-same {M} {k} z u e (once l) = absurd (omega (arith, twos-between M M 0 k (omega arith) (omega arith)))

once-low : {M k c : ℕ} → Once M k c → Once M (suc k) c
once-low not_yet = not_yet
once-low (once l) = once (omega arith)

gap_top : (M k c : ℕ) → 0 < k → Once M k c → (xs : List Node) → k + length xs ≤ 2 ^ suc M → Levelled M k xs → gap_at M c xs ≤ 1
gap_top M k c z s [] u w = once_le s
gap_top M k c z s (y ∷ ys) u w = elim (test M y.height) [
  | hit e p ↦ let q : y.height ≤ M = omega (arith, twos_le M k, w.0) in
      rw (e, le-leb y.height M q)
      (gap_top M (suc k) (suc c) (omega arith) (once-same z (omega arith) (omega (arith, w.0)) s) ys (omega arith) w.1)
  | miss e p ↦ rw e (gap_top M (suc k) c (omega arith) (once-low s) ys (omega arith) w.1)
]

gap_level : (M h : ℕ) → h ≤ M → (xs : List Node) → length xs < 2 ^ suc M → Levelled M 1 xs → gap_at h 0 xs ≤ 1
gap_level M h l xs u w = elim (test (suc h) M) [
  | hit e p ↦ gap-one M h 1 0 p none xs w
  | miss e p ↦ let q : h ≡ M = omega arith in rw q (gap_top M 1 0 (omega arith) not_yet xs (omega arith) w)
]

gap_levels : (M h : ℕ) → h ≤ M → (xs : List Node) → length xs < 2 ^ suc M → Levelled M 1 xs → gap h xs ≤ 1
gap_levels M zero l xs u w = gap_level M 0 l xs u w
gap_levels M (suc h) l xs u w = max-le (gap_level M (suc h) l xs u w) (gap_levels M h (omega arith) xs u w)

-- a levelled list with fewer than 2 ^ (M + 1) keys has gaps of at most 1
pub gap-levelled : (M : ℕ) (xs : List Node) → length xs < 2 ^ suc M → Levelled M 1 xs → gap M xs ≤ 1
gap-levelled M xs u w = gap_levels M M (omega arith) xs u w

pub low-levelled : (M k : ℕ) (xs : List Node) → Levelled M k xs → Low M xs
low-levelled M k [] w = tt
low-levelled M k (y ∷ ys) w = (omega (arith, w.0, twos_le M k), low-levelled M (suc k) ys w.1)

-- the second limit of demand 3
pub tally-levelled : (M t : ℕ) (xs : List Node) → Sorted xs → length xs < 2 ^ suc M → Levelled M 1 xs → tally M t xs ≤ 2 * M + 2
tally-levelled M t xs s u w =
    omega (arith, tally-gap M t xs s (low-levelled M 1 xs w), mul-le-mul_right (M + 1) (gap-levelled M xs u w))

-- levelling levels, and a part from the front stays levelled
pub level_levelled : (M k : ℕ) (xs : List Node) → Levelled M k (level_from M k xs)
level_levelled M k [] = tt
level_levelled M k (y ∷ ys) = (refl, level_levelled M (suc k) ys)

pub levelled-take : (M k n : ℕ) (xs : List Node) → Levelled M k xs → Levelled M k (take n xs)
levelled-take M k zero xs w = tt
levelled-take M k (suc n) [] w = tt
levelled-take M k (suc n) (y ∷ ys) w = (w.0, levelled-take M (suc k) n ys w.1)
