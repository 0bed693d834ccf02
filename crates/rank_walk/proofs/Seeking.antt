-- What one look of the walk by rank does: it stops along its stage, goes where the link goes, or one step by next. Rests on walk's Ahead and Noting.
use Prim.Native.Nat.{ℕ, suc, ◌+◌, ◌-◌, ◌≤◌, ◌<◌}
use mathlib.Core.Path.{◌≡◌, refl, ap, ◌∙◌}
use mathlib.Core.List.{List, [], ◌∷◌}
use lib.ListN.{length, drop, length-drop}
use native.Mathlib.Omega.{arith}
use borrow.Author.Tests.{le-leb}
use Rattle.model.specs.Nodes.{Node, slot_at}
use Rattle.model.specs.Arena.{next_column}
use Rattle.model.specs.Links.{distance, target}
use Rattle.model.specs.Cells.{cell_at}
use Rattle.model.specs.Passes.{nodes}
use Rattle.model.proofs.Tests.{hit, miss, test}
use Rattle.walk.specs.Standing.{Standing, Sought}
use Rattle.walk.proofs.Standing.{next-cell}
use Rattle.walk.proofs.Ahead.{nothing, there, look}
use Rattle.walk.proofs.Noting.{sought}

-- ---- a look at a link of stage h ----
module _ {w : List ℕ} {m a i h s r : ℕ} (g : Standing w m a i h s r) {far : ℕ} (e : far ≡ distance h (drop r (nodes w a))) where
  pub ends_here : ((0 < far) × (far ≤ i - r) → ⊥) → Sought w m a i h s r
  ends_here n = sought g (λ y. elim (test far (i - r)) [ hit t q ↦ absurd (n (omega arith, q)) | miss t q ↦ omega (arith, g.before) ])

  pub follows : (0 < far) × (far ≤ i - r) → {to q : ℕ} → to ≡ target h (drop r (nodes w a)) → q ≡ r + far → Standing w m a i h to q
  follows n {to} {q} f p = elim (look g.owner to f) [
    | nothing x d ↦ absurd (omega (arith, n.0))
    | there d x y o ↦
        let u : suc (r + d) ≡ q = omega (arith, y) in
        record { owner = rw u at o; levels = g.levels; before = omega (arith, g.before, n.1); within = g.within }
  ]

-- ---- a step by next ----
module _ {w : List ℕ} {m a i s r : ℕ} (g : Standing w m a i 0 s r) where
  one : (ys : List Node) → 0 < length ys → distance 0 ys ≡ 1
  one [] l = absurd (omega arith)
  one (y ∷ ys) l = rw (le-leb 0 y.height (omega arith)) refl

  pub steps : r < i → (to q : ℕ) → to ≡ cell_at m w s next_column → q ≡ r + 1 → Standing w m a i 0 to q
  steps l to q e p =
      let f = one (drop r (nodes w a)) (omega (arith, length-drop r (nodes w a), g.within)) in
      elim (look g.owner to (e ∙ next-cell g)) [
        | nothing x d ↦ absurd (omega (arith, d, f))
        | there d x y o ↦
            let u : suc (r + d) ≡ q = omega (arith, y, f) in
            record { owner = rw u at o; levels = g.levels; before = omega arith; within = g.within }
      ]

  pub arrived : i ≤ r → s ≡ slot_at a (nodes w a) i
  arrived l = let e : r ≡ i = omega (arith, g.before) in g.owner.slot_is ∙ ap (slot_at a (nodes w a)) e
