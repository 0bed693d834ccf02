-- The walk along a list, step by step: the list is right exactly when what is left of it is. Rests on specs/Walked.
use Prim.Native.Nat.{ℕ, suc, ◌+◌, ◌-◌, ◌≤◌, ◌<◌}
use mathlib.Core.Path.{◌≡◌, sym, ◌∙◌}
use mathlib.Core.Bool.{Bool, true, false}
use mathlib.Core.List.{List}
use lib.ListN.{replicate}
use native.Mathlib.Numerals.{add-one}
use native.Mathlib.Omega.{arith}
use Rattle.model.specs.Nodes.{N}
use Rattle.arena.specs.Decides.{Decides}
use Rattle.arena.proofs.Deciding.{yes, no, say_no}
use Rattle.link_check.specs.declared.Dims.{Dims}
use Rattle.link_check.specs.Shape.{count_in, key_in, height_in, next_in, last_in}
use Rattle.link_check.specs.LevelLinks.{PendingAbsent, OwnerSlots, filled}
use Rattle.list_check.specs.Walked.{NodeOk, Walked, WalkOk}

-- it stands at slot s, n nodes left, after key k, slot z and rank r, with the owners' slots os and ranks qs
pub record WalkAt (w : List ℕ) (d : Dims) (a n s k z r : ℕ) (os qs : List ℕ) : Type 0 where
  pub few : r + n ≤ d.room
  pub owners : OwnerSlots d os
  pub to : WalkOk w d a → Walked w d (last_in w d a) n s k z r os qs
  pub from : Walked w d (last_in w d a) n s k z r os qs → WalkOk w d a

pub walk_start : {w : List ℕ} {d : Dims} {a n s : ℕ} {os qs : List ℕ} → n ≤ d.room → OwnerSlots d os → n ≡ count_in w d a → s ≡ next_in w d a → os ≡ replicate 16 a → qs ≡ replicate 16 0
    → WalkAt w d a n s 0 N 0 os qs
walk_start f owners i j x y = record { few = omega (arith, f); owners = owners; to = rw (i, j, x, y) (λ f. f); from = rw (i, j, x, y) (λ f. f) }

module _ {w : List ℕ} {d : Dims} {a n s k z r : ℕ} {os qs : List ℕ} (t : WalkAt w d a n s k z r os qs) where
  module _ {m : ℕ} (l : n ≡ suc m) {b : Bool} (o : Decides b (NodeOk w d s k (r + 1) os qs)) where
    -- what is left after the node in slot s, which has rank r + 1
    abbrev Rest : Type 0
    Rest = Walked w d (last_in w d a) m (next_in w d s) (key_in w d s) s (r + 1) (filled (height_in w d s) s os) (filled (height_in w d s) (r + 1) qs)

    first_step : WalkOk w d a → NodeOk w d s k (r + 1) os qs × Rest
    unfolding Walked
    first_step f = rw add-one (rw l at (t.to f))

    one_more : NodeOk w d s k (r + 1) os qs × Rest → WalkOk w d a
    unfolding Walked
    one_more f = t.from (rw l (rw add-one at f))

    pub walk_next : {h k' s' : ℕ} {os' qs' : List ℕ} → b ≡ true → h ≡ height_in w d s → os' ≡ filled h s os → qs' ≡ filled h (r + 1) qs
        → k' ≡ key_in w d s → s' ≡ next_in w d s → OwnerSlots d os' → WalkAt w d a m s' k' s (r + 1) os' qs'
    walk_next y i g g' x x' owners = record {
      few = omega (arith, t.few, l);
      owners = owners;
      to = rw (x, x', g, g', i) (λ f. (first_step f).1);
      from = rw (x, x', g, g', i) (λ f. one_more (yes o y, f));
    }

  pub wrong_node : {b : Bool} → 0 < n → Decides b (NodeOk w d s k (r + 1) os qs) → b ≡ false → Decides false (WalkOk w d a)
  wrong_node l o y = let e : n ≡ suc (n - 1) = omega arith in say_no (λ f. no o y (first_step e o f).0)

  module _ (l : n ≡ 0) where
    at_end : WalkOk w d a → (s ≡ N) × (z ≡ last_in w d a) × PendingAbsent w d os
    unfolding Walked
    at_end f = rw l at (t.to f)

    ended : (s ≡ N) × (z ≡ last_in w d a) × PendingAbsent w d os → WalkOk w d a
    unfolding Walked
    ended f = t.from (rw l f)

    pub list-goes-on : (s ≡ N → ⊥) → Decides false (WalkOk w d a)
    list-goes-on o = say_no (λ f. o (at_end f).0)

    pub other_last : {x : ℕ} → x ≡ last_in w d a → (z ≡ x → ⊥) → Decides false (WalkOk w d a)
    other_last i o = say_no (λ f. o ((at_end f).1 ∙ sym i))

    pub walk_decided : {x : ℕ} {y : Bool} → s ≡ N → x ≡ last_in w d a → z ≡ x → Decides y (PendingAbsent w d os) → Decides y (WalkOk w d a)
    walk_decided j i m o = record { sound = λ u. ended (j, m ∙ i, o.sound u); complete = λ f. o.complete (at_end f).2 }
