-- Each node slot is in exactly one list or on the free chain, without marks: chains that end apart, and lengths that add up to the room.
-- Rests on SlotLists, list_check's Formed and model's Apart.
use Prim.Native.Nat.{ℕ, zero, suc, ◌≤◌}
use mathlib.Core.Path.{◌≡◌, refl, sym, subst}
use mathlib.Core.List.{List}
use native.Mathlib.Omega.{arith}
use Rattle.model.specs.Arena.{last_slot}
use Rattle.model.specs.Nodes.{N}
use Rattle.model.specs.Passes.{free_chain}
use Rattle.model.proofs.Apart.{first, ends_at, Stretch, InRange}
use Rattle.model.proofs.Columns.{free_step}
use Rattle.link_check.specs.declared.Dims.{Dims}
use Rattle.link_check.specs.Shape.{Shape, height_in, next_in}
use Rattle.list_check.proofs.Formed.{nodes_from, Formed}
use Rattle.arena_check.specs.FreeChain.{FreeFrom}
use Rattle.arena_check.proofs.FreeClauses.{free_last}
use Rattle.arena_check.proofs.SlotLists.{slots}

module _ (w : List ℕ) (d : Dims) (v : Shape w d) where
  -- ---- the chains of the lists ----
  first-node : (n s : ℕ) → Formed w d n s → s ≡ first (slots (nodes_from w d n s))
  first-node zero s f = f
  first-node (suc n) s f = refl

  pub formed_follows : (n s : ℕ) → Formed w d n s → Stretch (next_in w d) (slots (nodes_from w d n s))
  formed_follows zero s f = tt
  formed_follows (suc n) s f =
      (first-node n (next_in w d s) f.1, omega (arith, f.0.slot.below, v.ranges.lists_most, v.ranges.room_most), formed_follows n (next_in w d s) f.1)

  pub formed_inside : (n s : ℕ) → Formed w d n s → InRange d.lists d.room (slots (nodes_from w d n s))
  formed_inside zero s f = tt
  formed_inside (suc n) s f = (f.0.slot.from, f.0.slot.below, formed_inside n (next_in w d s) f.1)

  formed-last : (n s : ℕ) → Formed w d (suc n) s → height_in w d (last_slot (nodes_from w d (suc n) s)) ≤ d.levels
  formed-last zero s f = f.0.low
  formed-last (suc n) s f = formed-last n (next_in w d s) f.1

  -- ---- the free chain ----
  first_free_lem : (n s : ℕ) → FreeFrom w d n s → s ≡ first (free_chain d.levels w n s)
  unfolding FreeFrom
  first_free_lem zero s f = f
  first_free_lem (suc n) s f = refl

  pub free_follows : (n s : ℕ) → FreeFrom w d n s → Stretch (next_in w d) (free_chain d.levels w n s)
  unfolding FreeFrom
  free_follows zero s f = tt
  free_follows (suc n) s f =
      subst (Stretch (next_in w d)) (sym (free_step d.levels w n s))
      (first_free_lem n (next_in w d s) f.1, omega (arith, f.0.slot.below, v.ranges.lists_most, v.ranges.room_most), free_follows n (next_in w d s) f.1)

  pub free_inside : (n s : ℕ) → FreeFrom w d n s → InRange d.lists d.room (free_chain d.levels w n s)
  unfolding FreeFrom
  free_inside zero s f = tt
  free_inside (suc n) s f = subst (InRange d.lists d.room) (sym (free_step d.levels w n s)) (f.0.slot.from, f.0.slot.below, free_inside n (next_in w d s) f.1)

  -- a free slot is told from a list's by word 1
  pub free_apart : (n s m t : ℕ) → FreeFrom w d n s → Formed w d m t → ends_at (free_chain d.levels w n s) ≡ last_slot (nodes_from w d m t)
      → ends_at (free_chain d.levels w n s) ≡ N
  free_apart zero s m t f g e = refl
  free_apart (suc n) s zero t f g e = e
  free_apart (suc n) s (suc m) t f g e =
      let p : height_in w d (last_slot (nodes_from w d (suc m) t)) ≡ N = subst (λ (x : ℕ). height_in w d x ≡ N) e (free_last w d n s f) in
      absurd (omega (arith, formed-last m t g, v.ranges.levels_most))
