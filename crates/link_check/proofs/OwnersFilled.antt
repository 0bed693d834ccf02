-- The owners after a node: at each level below its height the node, elsewhere the owner before. Rests on specs/LevelLinks.
use Prim.Native.Nat.{ℕ, zero, suc, ◌+◌, ◌≤◌, ◌<◌}
use mathlib.Core.Path.{◌≡◌, refl, ap, ◌∙◌}
use mathlib.Core.List.{List}
use lib.ListN.{length, get_or, set, length-set}
use lib.Seq.{get_or-set_same, get_or-set_other}
use native.Mathlib.Numerals.{add-one}
use native.Mathlib.Omega.{arith}
use Rattle.model.proofs.Tests.{hit, miss, test, same, other, same?}
use Rattle.std.proofs.lemmas.Grind.{get_or-set_at}
use Rattle.link_check.specs.declared.Dims.{Dims}
use Rattle.link_check.specs.LevelLinks.{OwnerSlots, filled}

-- ---- the loop that stores: ys has v at the l levels passed, and is xs elsewhere ----
pub fill_none : (v : ℕ) (xs : List ℕ) → xs ≡ filled 0 v xs
unfolding filled
fill_none v xs = refl

pub fill_more : (v l : ℕ) (xs ys : List ℕ) → ys ≡ filled l v xs → set ys l v ≡ filled (l + 1) v xs
unfolding filled
fill_more v l xs ys f = rw (add-one l) (ap (λ (t : List ℕ). set t l v) f)

-- ---- what is filled, level by level ----
pub length-filled : (h v : ℕ) (xs : List ℕ) → length (filled h v xs) ≡ length xs
unfolding filled
length-filled zero v xs = refl
length-filled (suc h) v xs = length-set (filled h v xs) h v ∙ length-filled h v xs

pub filled-above : (h v : ℕ) (xs : List ℕ) (l : ℕ) → h ≤ l → get_or (filled h v xs) l 0 ≡ get_or xs l 0
unfolding filled
filled-above zero v xs l k = refl
filled-above (suc h) v xs l k = get_or-set_other (filled h v xs) h l v 0 (λ e. omega arith) ∙ filled-above h v xs l (omega arith)

pub filled-below : (h v : ℕ) (xs : List ℕ) (l : ℕ) → l < h → l < length xs → get_or (filled h v xs) l 0 ≡ v
unfolding filled
filled-below zero v xs l k i = absurd (omega arith)
filled-below (suc h) v xs l k i = elim (test h l) [
  | hit e p ↦ let z : l ≡ h = omega arith in rw z (get_or-set_same (filled h v xs) h v 0 (omega (arith, length-filled h v xs)))
  | miss e p ↦ get_or-set_other (filled h v xs) h l v 0 (λ e. omega arith) ∙ filled-below h v xs l p i
]

-- a slot in place of an owner's
pub owner_set : {d : Dims} {os : List ℕ} (l s : ℕ) → OwnerSlots d os → d.levels ≤ 16 → s < d.lists + d.room → OwnerSlots d (set os l s)
owner_set {d} {os} l s o m k = record {
  full = length-set os l s ∙ o.full;
  slot = λ j i. elim (same? j l) [
    | same e p ↦ rw (get_or-set_at os l j s 0 p (omega (arith, o.full))) k
    | other e n ↦ rw (get_or-set_other os l j s 0 n) (o.slot j i)
  ];
}
