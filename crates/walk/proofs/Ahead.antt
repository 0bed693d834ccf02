-- What a walk has ahead: where the link of its stage goes, and the key there. Rests on Standing and model's Steps.
use Prim.Native.Nat.{ℕ, zero, suc, ◌+◌, ◌<◌}
use mathlib.Core.Path.{◌≡◌, refl, sym, ap, ◌∙◌}
use mathlib.Core.Bool.{false}
use mathlib.Core.List.{List, [], ◌∷◌}
use lib.Dec.{eqb}
use lib.ListN.{length, drop, length-drop}
use lib.Seq.{get_or-drop}
use native.Mathlib.Omega.{arith}
use borrow.Author.Tests.{le-leb}
use Rattle.model.specs.Nodes.{Node, node, N, at, key_at}
use Rattle.model.specs.Links.{distance, target}
use Rattle.model.specs.Arena.{key_column}
use Rattle.model.specs.Closed.{key_is}
use Rattle.model.specs.Cells.{Cell, cell_at}
use Rattle.model.specs.Passes.{nodes}
use Rattle.model.proofs.Tests.{hit, miss, test}
use Rattle.model.proofs.Steps.{target_at, target_none, distance-tall}
use Rattle.arena.specs.Owners.{Owner}
use Rattle.arena.proofs.Places.{slot_in_lem}
use Rattle.walk.specs.Standing.{Standing}
use Rattle.walk.proofs.Standing.{cell_here, key_here}

-- what a look at the link of stage h finds: nothing, or the owner that it goes to
pub data Look (w : List ℕ) (a r h : ℕ) (to : ℕ) : Type 0 where
  nothing : to ≡ N → distance h (drop r (nodes w a)) ≡ 0 → Look w a r h to
  there : (d : ℕ) → to < N → distance h (drop r (nodes w a)) ≡ suc d → Owner w a (suc (r + d)) to h → Look w a r h to

pub look : {w : List ℕ} {a r s h : ℕ} → Owner w a r s h → (to : ℕ) → to ≡ target h (drop r (nodes w a)) → Look w a r h to
look {w} {a} {r} {s} {h} o to e = by (distance h (drop r (nodes w a))) refl
  where
    ys : List Node
    ys = drop r (nodes w a)

    by : (k : ℕ) → distance h ys ≡ k → Look w a r h to
    by zero f = nothing (e ∙ target_none h ys f) f
    by (suc d) f =
        let g = target_at h ys d f in
        let k = distance-tall h ys d f in
        let b = get_or-drop r (nodes w a) d (node N 0 0) in
        let len = length-drop r (nodes w a) in
        let i : r + d < length (nodes w a) = omega (arith, k.0) in
        let sl : to ≡ (at (nodes w a) (r + d)).slot = e ∙ g ∙ ap (λ (y : Node). y.slot) b in
        let o' : Owner w a (suc (r + d)) to h
        = record { passes = o.passes; list = o.list; within = i; slot_is = sl; tall = rw b at k.1; level = o.level } in
        there d (omega (arith, slot_in_lem o', o.passes.sizes)) f o'

-- a present link goes to an owner d + 1 ranks on, whose key can be read
pub record Ahead (w : List ℕ) (m a h s r to d : ℕ) : Type 0 where
  pub far : distance h (drop r (nodes w a)) ≡ suc d
  pub stands : Standing w m a (length (nodes w a)) h to (suc (r + d))
  pub key : cell_at m w to key_column ≡ key_at (drop r (nodes w a)) d

module _ {w : List ℕ} {m a i h s r to : ℕ} (g : Standing w m a i h s r) (e : to ≡ target h (drop r (nodes w a))) (ne : to ≡ N → ⊥) where
  pub ahead : (d : ℕ) × Ahead w m a h s r to d
  ahead = elim (look g.owner to e) [
    | nothing x d ↦ absurd (ne x)
    | there d x y o ↦
        let k : Standing w m a (length (nodes w a)) h to (suc (r + d)) = record { owner = o; levels = g.levels; before = o.within; within = omega arith } in
        (d, record { far = y; stands = k; key = key_here k (r + d) refl ∙ sym (ap (λ (y : Node). y.key) (get_or-drop r (nodes w a) d (node N 0 0))) })
  ]

  pub key_cell : Cell w m to key_column
  key_cell = cell_here ahead.1.stands key_column (omega arith)

  pub goes_on : 0 < distance h (drop r (nodes w a))
  goes_on = omega (arith, ahead.1.far)

-- ---- by next ----
pub next_one : {w : List ℕ} {m a i s r to : ℕ} → Standing w m a i 0 s r → to ≡ target 0 (drop r (nodes w a)) → (to ≡ N → ⊥)
    → 1 ≡ distance 0 (drop r (nodes w a))
next_one {w} {m} {a} {i} {s} {r} g e ne = one (drop r (nodes w a)) (goes_on g e ne)
  where
    one : (ys : List Node) → 0 < distance 0 ys → 1 ≡ distance 0 ys
    one [] f = absurd (omega arith)
    one (y ∷ ys) f = rw (le-leb 0 y.height (omega arith)) refl

-- whether the next node has the key t
pub key_none : (t : ℕ) (ys : List Node) → distance 0 ys ≡ 0 → key_is t ys ≡ false
key_none t [] e = refl
key_none t (y ∷ ys) e = absurd (omega (arith, rw (le-leb 0 y.height (omega arith)) at e))

pub key_first : (t : ℕ) (ys : List Node) (d : ℕ) → distance 0 ys ≡ suc d → key_is t ys ≡ eqb (key_at ys d) t
key_first t [] d e = absurd (omega (arith, e))
key_first t (y ∷ ys) zero e = refl
key_first t (y ∷ ys) (suc d) e = absurd (omega (arith, rw (le-leb 0 y.height (omega arith)) at e))

-- a key that is neither above t nor the same is below
pub else_below : {t x : ℕ} → (t < x → ⊥) → (t ≡ x → ⊥) → x < t
else_below {t} {x} n e = elim (test t x) [
  | miss f p ↦ p
  | hit f p ↦ elim (test (suc t) x) [ hit g q ↦ absurd (n q) | miss g q ↦ absurd (e (omega arith)) ]
]
