-- The loop of `step_over`: the first l of sixteen are v, the others as before.
use Prim.Native.Nat.{ℕ, suc, ◌+◌, ◌≤◌, ◌<◌}
use mathlib.Core.Path.{◌≡◌, refl, ap, ◌∙◌}
use mathlib.Core.Bool.{Bool, true, false, cond}
use mathlib.Core.List.{List}
use lib.Dec.{ltb}
use lib.ListN.{length, get_or, set, length-set}
use lib.Seq.{get_or-set_same, get_or-set_other}
use native.Mathlib.Omega.{arith}
use borrow.Author.Tests.{lt-ltb, le-ltb}
use Rattle.arena.specs.declared.Path.{Path}
use Rattle.arena.specs.declared.Slot.{Slot}
use Rattle.arena.specs.declared.Rank.{Rank}
use Rattle.levelling.specs.NodeByNode.{Full, SteppedOver}
use Rattle.model.proofs.Tests.{hit, miss, test, same, other, same?}

picked : {A : Type 0} (f : A → ℕ) (b : Bool) (x y : A) → f (cond b x y) ≡ cond b (f x) (f y)
picked f true x y = refl
picked f false x y = refl

module _ {A : Type 0} (d : A) where
  pub record Filled (xs₀ : List A) (v : A) (l : ℕ) (xs : List A) : Type 0 where
    pub size : length xs ≡ 16
    pub is : (j : ℕ) → j < 16 → get_or xs j d ≡ cond (ltb j l) v (get_or xs₀ j d)

  none_filled : (xs : List A) (v : A) → length xs ≡ 16 → Filled xs v 0 xs
  none_filled xs v e = record { size = e; is = λ j k. rw (le-ltb j 0 (omega arith)) refl }

  one-filled : {xs₀ : List A} {v : A} {l : ℕ} {xs : List A} → l < 16 → Filled xs₀ v l xs → Filled xs₀ v (l + 1) (set xs l v)
  one-filled {xs₀} {v} {l} {xs} k g = record {
    size = length-set xs l v ∙ g.size;
    is = λ j b. elim (same? j l) [
      | same e q ↦ rw (q, lt-ltb l (l + 1) (omega arith)) (get_or-set_same xs l v d (omega (arith, g.size)))
      | other e q ↦ get_or-set_other xs l j v d q ∙ g.is j b ∙ elim (test (suc j) l) [
        | hit f p ↦ rw (lt-ltb j l p, lt-ltb j (l + 1) (omega arith)) refl
        | miss f p ↦ rw (le-ltb j l (omega arith), le-ltb j (l + 1) (omega (arith, q))) refl
      ]
    ];
  }

  all-filled : {xs₀ : List A} {v : A} {l h : ℕ} {xs : List A} → Filled xs₀ v l xs → l ≤ h → h ≤ l → (number : A → ℕ)
      → (j : ℕ) → j < 16 → number (get_or xs j d) ≡ cond (ltb j h) (number v) (number (get_or xs₀ j d))
  all-filled {xs₀} {v} {l} {h} {xs} g x y number j k =
      let e : l ≡ h = omega arith in
      ap number (g.is j k) ∙ picked number (ltb j l) v (get_or xs₀ j d) ∙ ap (λ (n : ℕ). cond (ltb j n) (number v) (number (get_or xs₀ j d))) e

-- both arrays of a path, where the node's height is h
pub record BothFilled (ss₀ : List Slot) (rs₀ : List Rank) (s : Slot) (r : Rank) (h : ℕ) (ss : List Slot) (rs : List Rank) (l : ℕ) : Type 0 where
  pub slots : Filled (record { 0 = 0 }) ss₀ s l ss
  pub ranks : Filled (record { 0 = 0 }) rs₀ r l rs
  pub within : l ≤ h

pub both_start : {p : Path} {s : Slot} {r : Rank} {h : ℕ} → Full p → BothFilled p.slots p.ranks s r h p.slots p.ranks 0
both_start {p} {s} {r} f = record { slots = none_filled _ p.slots s f.slots; ranks = none_filled _ p.ranks r f.ranks; within = omega arith }

pub both_turn : {slots₀ : List Slot} {ranks₀ : List Rank} {s : Slot} {r : Rank} {h : ℕ} {slots : List Slot} {ranks : List Rank} {l : ℕ}
    → BothFilled slots₀ ranks₀ s r h slots ranks l → h ≤ 16 → l < h → BothFilled slots₀ ranks₀ s r h (set slots l s) (set ranks l r) (l + 1)
both_turn g hm k = record { slots = one-filled _ (omega arith) g.slots; ranks = one-filled _ (omega arith) g.ranks; within = omega arith }

pub both_end : {p : Path} {s : Slot} {r : Rank} {h : ℕ} {slots : List Slot} {ranks : List Rank} {l : ℕ} → BothFilled p.slots p.ranks s r h slots ranks l → h ≤ l
    → SteppedOver p s.0 r.0 h (record { slots = slots; ranks = ranks; end = s })
both_end g k = record {
  slots = all-filled _ g.slots g.within k (λ (x : Slot). x.0);
  ranks = all-filled _ g.ranks g.within k (λ (x : Rank). x.0);
  end = refl;
  full = record { slots = g.slots.size; ranks = g.ranks.size };
}
