-- One look at a link: what a step of the walk by key does to its closed form, and how far a link goes. Rests on specs/Walks.
use Prim.Native.Nat.{ℕ, zero, suc, ◌+◌, ◌≤◌, ◌<◌}
use mathlib.Core.Path.{◌≡◌, refl, sym, ◌∙◌}
use mathlib.Core.List.{List, [], ◌∷◌}
use lib.ListN.{length, drop}
use native.Mathlib.Nat.{suc-ne-zero}
use native.Mathlib.Omega.{arith}
use borrow.Author.Tests.{le-leb, lt-ltb, le-ltb}
use Rattle.model.specs.Arena.{first_slot}
use Rattle.model.specs.Links.{further, distance, target}
use Rattle.model.specs.Nodes.{Node, N, at}
use Rattle.model.specs.Closed.{go, asks}
use Rattle.model.proofs.Tests.{hit, miss, test}

pub further-zero : (d : ℕ) → further d ≡ 0 → d ≡ 0
further-zero zero e = refl
further-zero (suc d) e = omega arith

pub further-one : (d e : ℕ) → further d ≡ suc e → d ≡ e × (1 ≤ e)
further-one zero e p = omega arith
further-one (suc d) e p = omega arith

pub further_add : (d n : ℕ) → further (suc d + n) ≡ suc (suc d + n)
further_add d n = further_pos (suc d + n) (omega arith)
  where
    further_pos : (k : ℕ) → 0 < k → further k ≡ suc k
    further_pos zero l = absurd (omega arith)
    further_pos (suc k) l = refl

pub further_le : (d : ℕ) {n : ℕ} → d ≤ n → further d ≤ suc n
further_le zero l = omega arith
further_le (suc d) l = omega arith

-- an absent link: no comparison, nothing gone on
pub absent_step : (h t : ℕ) (ys : List Node) → distance h ys ≡ 0 → (go h t ys ≡ 0) × (asks h t ys ≡ 0)
absent_step h t [] e = (refl, refl)
absent_step h t (y ∷ ys) e = elim (test h y.height) [
  | hit f p ↦ absurd (omega (arith, rw f at e))
  | miss f p ↦ let i = absent_step h t ys (further-zero (distance h ys) (rw f at e)) in rw (f, i.0, i.1) (refl, refl)
]

pub record Smaller (h t : ℕ) (ys : List Node) (d : ℕ) : Type 0 where
  pub gone : go h t ys ≡ suc d + go h t (drop (suc d) ys)
  pub asked : asks h t ys ≡ suc (asks h t (drop (suc d) ys))

-- a present link of distance d + 1 to a smaller key: one comparison, and on from there
pub smaller_step : (h t : ℕ) (ys : List Node) (d : ℕ) → distance h ys ≡ suc d → (at ys d).key < t → Smaller h t ys d
smaller_step h t [] d e k = absurd (suc-ne-zero d (sym e))
smaller_step h t (y ∷ ys) zero e k = elim (test h y.height) [
  | hit f p ↦ record { gone = rw (f, lt-ltb y.key t k) (omega arith); asked = rw (f, lt-ltb y.key t k) refl }
  | miss f p ↦ absurd (omega (arith, further-one (distance h ys) 0 (rw f at e)))
]
smaller_step h t (y ∷ ys) (suc d) e k = elim (test h y.height) [
  | hit f p ↦ absurd (omega (arith, rw f at e))
  | miss f p ↦
      let i = smaller_step h t ys d (further-one (distance h ys) (suc d) (rw f at e)).0 k in
      record { gone = rw (f, i.gone) (further_add d (go h t (drop (suc d) ys)) ∙ omega arith); asked = rw f i.asked }
]

-- a present link to a key that is not smaller: one comparison, and down
pub other_step : (h t : ℕ) (ys : List Node) (d : ℕ) → distance h ys ≡ suc d → t ≤ (at ys d).key → (go h t ys ≡ 0) × (asks h t ys ≡ 1)
other_step h t [] d e k = absurd (suc-ne-zero d (sym e))
other_step h t (y ∷ ys) zero e k = elim (test h y.height) [
  | hit f p ↦ rw (f, le-ltb y.key t k) (refl, refl)
  | miss f p ↦ absurd (omega (arith, further-one (distance h ys) 0 (rw f at e)))
]
other_step h t (y ∷ ys) (suc d) e k = elim (test h y.height) [
  | hit f p ↦ absurd (omega (arith, rw f at e))
  | miss f p ↦ let i = other_step h t ys d (further-one (distance h ys) (suc d) (rw f at e)).0 k in rw (f, i.0, i.1) (refl, refl)
]

-- the link's target
pub target_at : (h : ℕ) (ys : List Node) (d : ℕ) → distance h ys ≡ suc d → target h ys ≡ (at ys d).slot
target_at h [] d e = absurd (suc-ne-zero d (sym e))
target_at h (y ∷ ys) zero e = elim (test h y.height) [ hit f p ↦ rw f refl | miss f p ↦ absurd (omega (arith, further-one (distance h ys) 0 (rw f at e))) ]
target_at h (y ∷ ys) (suc d) e = elim (test h y.height) [
  | hit f p ↦ absurd (omega (arith, rw f at e))
  | miss f p ↦ rw f (target_at h ys d (further-one (distance h ys) (suc d) (rw f at e)).0)
]

pub target_none : (h : ℕ) (ys : List Node) → distance h ys ≡ 0 → target h ys ≡ N
target_none h [] e = refl
target_none h (y ∷ ys) e = elim (test h y.height) [
  | hit f p ↦ absurd (omega (arith, rw f at e))
  | miss f p ↦ rw f (target_none h ys (further-zero (distance h ys) (rw f at e)))
]

-- a link goes to a node of its stage, within the list
pub distance-tall : (h : ℕ) (ys : List Node) (d : ℕ) → distance h ys ≡ suc d → (d < length ys) × (h ≤ (at ys d).height)
distance-tall h [] d e = absurd (omega (arith, e))
distance-tall h (y ∷ ys) zero e = elim (test h y.height) [
  | hit f p ↦ (omega arith, p)
  | miss f p ↦ absurd (omega (arith, further-one (distance h ys) 0 (rw f at e)))
]
distance-tall h (y ∷ ys) (suc d) e = elim (test h y.height) [
  | hit f p ↦ absurd (omega (arith, rw f at e))
  | miss f p ↦ let i = distance-tall h ys d (further-one (distance h ys) (suc d) (rw f at e)).0 in (omega (arith, i.0), i.1)
]

-- ---- how far a link goes, and next as the link of stage 0 ----
pub distance_le : (h : ℕ) (ys : List Node) → distance h ys ≤ length ys
distance_le h [] = omega arith
distance_le h (y ∷ ys) = elim (test h y.height) [ hit e p ↦ rw e (omega arith) | miss e p ↦ rw e (further_le (distance h ys) (distance_le h ys)) ]

pub first-target : (ys : List Node) → first_slot ys ≡ target 0 ys
first-target [] = refl
first-target (y ∷ ys) = rw (le-leb 0 y.height (omega arith)) refl
