-- Where the walks end, as the visitors hold it. Rests on specs/Visited, on key_walk's Midway and on model's Searching and ByRank.
use Prim.Native.Nat.{ℕ, suc, ◌+◌, ◌-◌, ◌≤◌, ◌<◌}
use mathlib.Core.Path.{◌≡◌, refl, sym, ap, ◌∙◌}
use mathlib.Core.Bool.{Bool, true, false, cond}
use mathlib.Core.List.{List}
use lib.Dec.{leb}
use lib.ListN.{length, drop}
use native.Mathlib.Nat.{zero-add}
use native.Mathlib.Omega.{arith}
use borrow.Author.Tests.{le-leb, lt-leb}
use Rattle.model.specs.Closed.{ends, tally, key_is}
use Rattle.model.specs.Nodes.{Node, slot_at}
use Rattle.model.specs.Walks.{stand, End, ended, is_found}
use Rattle.model.specs.Passes.{nodes}
use Rattle.model.proofs.Searching.{end_at, walk_is}
use Rattle.model.proofs.ByRank.{from_there, from_past, from-behind}
use Rattle.arena.specs.declared.Slot.{Slot}
use Rattle.arena.specs.declared.Rank.{Rank}
use Rattle.key_walk.specs.Midway.{Arrived}
use Rattle.visitor.specs.Visited.{key_at, key_end, key_over, key_visit, rank_at, rank_visit}
use Rattle.visitor.specs.declared.ord_index.OrdIndexVisitor.{OrdIndexVisitor}
use Rattle.visitor.specs.declared.index.IndexVisitor.{IndexVisitor}

abbrev slot : ℕ → Slot
slot x = record { 0 = x }

abbrev rank : ℕ → Rank
rank x = record { 0 = x }

-- ---- by key ----
module _ (w : List ℕ) (v : OrdIndexVisitor) where
  abbrev ys : List Node
  ys = nodes w v.list.0

  pub found-stays : v.found ≡ true → key_visit w v ≡ v
  found-stays f = rw f refl

  -- the rank after which the walk ends, and its comparisons
  abbrev pub E : ℕ
  E = v.rank.0 + ends v.level v.target (drop v.rank.0 ys)

  abbrev pub T : ℕ
  T = tally v.level v.target (drop v.rank.0 ys)

  -- whether the key is there
  abbrev pub met : Bool
  met = key_is v.target (drop E ys)

  -- what a visitor that has not found its key holds after a walk of n comparisons
  abbrev within : ℕ → OrdIndexVisitor → OrdIndexVisitor
  within n x = cond (leb n v.left) x (key_over v)

  pub visit_is : v.found ≡ false → key_visit w v ≡ within T (key_end w v (stand (cond met (suc E) E) T) met)
  visit_is f = rw f (ap by_end (walk_is v.level v.target ys v.rank.0 0 ∙ ap (end_at met E) (zero-add T)) ∙ at-end met)
    where
      by_end : End → OrdIndexVisitor
      by_end e = within (ended e).tally (key_end w v (ended e) (is_found e))

      at-end : (b : Bool) → by_end (end_at b E T) ≡ within T (key_end w v (stand (cond b (suc E) E) T) b)
      at-end true = refl
      at-end false = refl

  pub visit_over : v.found ≡ false → v.left < T → key_over v ≡ key_visit w v
  visit_over f l = sym (visit_is f ∙ (rw (lt-leb T v.left l) refl))

  -- the walk has ended, at slot s of rank q with n comparisons left
  pub visit_ends : v.found ≡ false → {b : Bool} {m n : ℕ} {s : Slot} {q : Rank} {x : OrdIndexVisitor} → Arrived w m v.list.0 v.target E T v.left b s.0 q.0 n
      → x ≡ key_at v s q n b → x ≡ key_visit w v
  visit_ends f {b} {m} {n} {s} {q} z e =
      let r : q ≡ rank (cond b (suc E) E) = ap rank z.rank in
      let i : s ≡ slot (slot_at v.list.0 ys (cond b (suc E) E)) = ap slot (z.stands.owner.slot_is ∙ ap (slot_at v.list.0 ys) z.rank) in
      let k : n ≡ v.left - T = omega (arith, z.left) in
      e ∙ sym (visit_is f ∙ (rw (le-leb T v.left (omega (arith, z.left)), z.is, r, i, k) refl))

-- ---- by rank ----
module _ (w : List ℕ) (v : IndexVisitor) where
  abbrev zs : List Node
  zs = nodes w v.list.0

  pub ranked : {s : Slot} {q : Rank} {b : Bool} → s.0 ≡ slot_at v.list.0 zs q.0
      → record { list = v.list; level = 0; current = s; rank = q; target = v.target; found = b } ≡ rank_at w v q.0 b
  ranked {s} {q} e = let i : s ≡ slot (slot_at v.list.0 zs q.0) = ap slot e in rw i refl

  pub visit_there : v.rank.0 ≤ v.target.0 → v.target.0 ≤ length zs → rank_at w v v.target.0 true ≡ rank_visit w v
  visit_there k l = rw (from_there v.level v.target.0 zs v.rank.0 k l) refl

  pub visit_past : v.rank.0 ≤ length zs → length zs < v.target.0 → rank_at w v (length zs) false ≡ rank_visit w v
  visit_past k l = rw (from_past v.level v.target.0 zs v.rank.0 k l) refl

  pub visit_behind : v.target.0 < v.rank.0 → rank_at w v (length zs) false ≡ rank_visit w v
  visit_behind l = rw (from-behind v.level v.target.0 zs v.rank.0 l) refl
