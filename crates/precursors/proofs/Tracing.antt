-- The walk by key with precursors: it goes on exactly while it stays at or before the number of smaller keys, so that it stops as the walk
-- by rank does, and its bound is never met. Rests on walk's Ahead and Noting and on model's theorems of the walk by key.
use Prim.Native.Nat.{ℕ, suc, ◌+◌, ◌<◌}
use mathlib.Core.Path.{◌≡◌, sym, ap, ◌∙◌}
use mathlib.Core.Bool.{Bool, true, false}
use mathlib.Core.List.{List}
use lib.Dec.{eqb}
use lib.ListN.{take, drop}
use lib.Seq.{get_or-drop, length-take-le}
use native.Mathlib.Omega.{arith}
use borrow.Author.Tests.{eq-eqb, ne_eqb}
use Rattle.model.specs.Closed.{key_is}
use Rattle.model.specs.Nodes.{Node, node, N, key_at, slot_at, smaller, Sorted}
use Rattle.model.specs.Links.{distance, target}
use Rattle.model.specs.Arena.{key_column}
use Rattle.model.specs.Walks.{is_found, key_walk}
use Rattle.model.specs.Cells.{cell_at}
use Rattle.model.specs.Passes.{decode, nodes, Passes}
use Rattle.model.proofs.Tests.{hit, miss, test}
use Rattle.model.proofs.Keeps.{each_get}
use Rattle.model.proofs.Walk.{last-zero, smaller_le, place_is}
use Rattle.model.proofs.Precursor.{key_below, key_above}
use Rattle.model.proofs.Searching.{walk_found}
use Rattle.arena.specs.Owners.{Listed}
use Rattle.arena.specs.declared.Slot.{Slot}
use Rattle.arena.specs.declared.Rank.{Rank}
use Rattle.walk.specs.Standing.{Standing}
use Rattle.walk.proofs.Standing.{at_head}
use Rattle.walk.proofs.Ahead.{nothing, there, look, Ahead, ahead, goes_on, key_none, key_first}
use Rattle.walk.proofs.Noting.{sought}
use Rattle.precursors.specs.Trails.{GoesBelow, Bound, Begun, Halted, Stopped, outcome_of}
use Rattle.precursors.specs.declared.Tracer.{Tracer}
use Rattle.precursors.specs.declared.Stop.{Stop}
use Rattle.precursors.specs.declared.Outcome.{Outcome}
use Rattle.precursors.specs.declared.Outcome.TheVariants.{Found, Missing}

pub begun-at_head : {w : List ℕ} {m a : ℕ} (t : ℕ) {v : Tracer} → v.slot.0 ≡ a → v.rank.0 ≡ 0 → v.bound.0 ≡ N → Listed w m a → Begun w m a m t v
begun-at_head {w} {m} {a} t es er eb g = record { stands = rw (es, er) (at_head g (smaller_le t (nodes w a))); bound = λ z. absurd (omega arith) }

in_order : (w : List ℕ) → Passes w → (a : ℕ) → Sorted (nodes w a)
in_order w p a = each_get Sorted (decode w).lists a tt p.sound.sorted

-- ---- one look ----
module _ {w : List ℕ} {m a h t : ℕ} {v : Tracer} (g : Begun w m a h t v) {to : ℕ} (e : to ≡ target h (drop v.rank.0 (nodes w a))) where
  abbrev r : ℕ
  r = v.rank.0

  halted : (0 < distance h (drop r (nodes w a)) → smaller t (nodes w a) < r + distance h (drop r (nodes w a))) → Halted w m a h t v
  halted f = record { sought = sought g.stands f; bound = g.bound }

  key_there : (d : ℕ) → Ahead w m a h v.slot.0 r to d → cell_at m w to key_column ≡ key_at (nodes w a) (r + d)
  key_there d k = k.key ∙ ap (λ (y : Node). y.key) (get_or-drop r (nodes w a) d (node N 0 0))

  -- the link is absent, or its key is not smaller
  module _ (n : GoesBelow w m t to → ⊥) where
    pub bound_here : Bound w m t to
    bound_here z = elim (test t (cell_at m w to key_column)) [ hit q p ↦ p | miss q p ↦ absurd (n (z, p)) ]

    pub stops_here : Halted w m a h t v
    stops_here = elim (look g.stands.owner to e) [
      | nothing x d ↦ halted (λ y. absurd (omega (arith, d)))
      | there d x f o ↦
          let k = ahead g.stands e (λ z. omega arith) in
          let s = in_order w g.stands.owner.passes a in
          halted (λ y. elim (test (suc (r + k.0)) (smaller t (nodes w a))) [
            | hit q p ↦ absurd (omega (arith, key_below t (nodes w a) s (r + k.0) p, key_there k.0 k.1, bound_here x))
            | miss q p ↦ omega (arith, k.1.far)
          ])
    ]

  -- its key is smaller
  module _ (y : GoesBelow w m t to) where
    present : to ≡ N → ⊥
    present z = omega (arith, y.0)

    pub far_on : 0 < distance h (drop r (nodes w a))
    far_on = goes_on g.stands e present

    pub goes_there : {far q : ℕ} → far ≡ distance h (drop r (nodes w a)) → q ≡ r + far → Standing w m a (smaller t (nodes w a)) h to q
    goes_there {far} {q} i j =
        let k = ahead g.stands e present in
        let s = in_order w g.stands.owner.passes a in
        let u : suc (r + k.0) ≡ q = omega (arith, k.1.far) in
        record {
          owner = (rw u at k.1.stands).owner;
          levels = g.stands.levels;
          before = elim (test (suc (r + k.0)) (smaller t (nodes w a))) [
            | hit x p ↦ omega arith
            | miss x p ↦
                let above = key_above t (nodes w a) s (r + k.0) (omega arith) (omega (arith, k.1.stands.before)) in
                absurd (omega (arith, above, key_there k.0 k.1, y.1))
          ];
          within = g.stands.within;
        }

    -- "total_order_violation": the bound's key is not smaller
    pub never_bound : to ≡ v.bound.0 → ⊥
    never_bound z = omega (arith, ap (λ (b : ℕ). cell_at m w b key_column) z, g.bound (omega (arith, y.0)), y.1)

-- ---- where it ends ----
module _ {w : List ℕ} {m a t : ℕ} {v : Tracer} (k : Halted w m a 0 t v) where
  abbrev xs : List Node
  xs = nodes w a

  abbrev model_outcome : Outcome
  model_outcome = outcome_of (is_found (key_walk m t xs))

  place-met : v.rank.0 ≡ smaller t xs
  place-met = k.sought.last_one ∙ last-zero (take (smaller t xs) xs) ∙ length-take-le (smaller t xs) xs (smaller_le t xs)

  slot-met : v.slot.0 ≡ slot_at a xs (smaller t xs)
  slot-met = k.sought.stands.owner.slot_is ∙ ap (slot_at a xs) place-met

  outcome_is : (b : Bool) → key_is t (drop v.rank.0 xs) ≡ b → outcome_of b ≡ model_outcome
  outcome_is b q =
      let p = place_is m t xs (in_order w k.sought.stands.owner.passes a) in
      ap outcome_of (sym q ∙ ap (λ (i : ℕ). key_is t (drop i xs)) (place-met ∙ sym p) ∙ sym (walk_found m t xs))

  pub stopped : {x : Outcome} → x ≡ model_outcome → {r : Stop} → (r.slot ≡ v.slot) × (r.rank ≡ v.rank) × (r.outcome ≡ x) → Stopped w m a t r
  stopped q e = record { slot = ap (λ (s : Slot). s.0) e.0 ∙ slot-met; rank = ap (λ (s : Rank). s.0) e.1 ∙ place-met; outcome = e.2 ∙ q }

  module _ {to : ℕ} (e : to ≡ target 0 (drop v.rank.0 xs)) where
    pub missing_absent : to ≡ N → Missing ≡ model_outcome
    missing_absent z = elim (look k.sought.stands.owner to e) [
      | nothing x d ↦ outcome_is false (key_none t (drop v.rank.0 xs) d)
      | there d x y o ↦ absurd (omega arith)
    ]

    module _ (ne : to ≡ N → ⊥) {met : ℕ} (f : met ≡ cell_at m w to key_column) where
      key_met : key_is t (drop v.rank.0 xs) ≡ eqb met t
      key_met =
          let j = ahead k.sought.stands e ne in
          key_first t (drop v.rank.0 xs) j.0 j.1.far ∙ ap (λ (x : ℕ). eqb x t) (sym (f ∙ j.1.key))

      pub missing_greater : t < met → Missing ≡ model_outcome
      missing_greater l = outcome_is false (key_met ∙ ne_eqb met t (λ z. omega arith))

      pub found_equal : t ≡ met → Found ≡ model_outcome
      found_equal l = outcome_is true (key_met ∙ eq-eqb met t (sym l))
