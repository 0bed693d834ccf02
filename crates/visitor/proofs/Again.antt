-- A visitor can be traversed again: after every walk it stands in its list, and a walk on from there stays. Rests on Ends.
use Prim.Native.Nat.{ℕ, zero, suc, ◌-◌, ◌≤◌, ◌<◌}
use mathlib.Core.Path.{◌≡◌, refl, sym, ap, subst, ◌∙◌}
use mathlib.Core.Bool.{Bool, true, false, false≢true, cond}
use mathlib.Core.List.{List, [], ◌∷◌}
use lib.Dec.{leb}
use lib.ListN.{length, drop, length-drop}
use lib.Seq.{drop-drop}
use native.Mathlib.Omega.{arith}
use borrow.Author.Tests.{le-leb}
use Rattle.model.specs.Closed.{go, asks, ends, key_is}
use Rattle.model.specs.Nodes.{Node}
use Rattle.model.specs.Walks.{stand}
use Rattle.model.specs.Passes.{nodes}
use Rattle.model.proofs.Tests.{hit, miss, test}
use Rattle.model.proofs.Walk.{ends_le}
use Rattle.arena.specs.Owners.{Listed}
use Rattle.walk.specs.Standing.{Standing}
use Rattle.walk.proofs.Standing.{at-rank}
use Rattle.visitor.specs.Visited.{KeyStands, key_at, key_end, key_over, key_visit, RankStands, rank_at, rank_visit}
use Rattle.visitor.specs.declared.ord_index.OrdIndexVisitor.{OrdIndexVisitor}
use Rattle.visitor.specs.declared.index.IndexVisitor.{IndexVisitor}
use Rattle.visitor.proofs.Ends.{found-stays, E, T, met, visit_is, visit_there, visit_past, visit_behind}

listed : {w : List ℕ} {m a i h s r : ℕ} → Standing w m a i h s r → Listed w m a
listed g = record { passes = g.owner.passes; levels = g.levels; list = g.owner.list }

-- ---- by key ----
-- the walk ends within the list
key_there : (t : ℕ) (ys : List Node) → key_is t ys ≡ true → 0 < length ys
key_there t [] e = absurd (false≢true e)
key_there t (y ∷ ys) e = omega arith

module _ {w : List ℕ} {m : ℕ} (v : OrdIndexVisitor) (g : KeyStands w m v) where
  abbrev ys : List Node
  ys = nodes w v.list.0

  end-within : (b : Bool) → met w v ≡ b → cond b (suc (E w v)) (E w v) ≤ length ys
  end-within true f = omega (arith, key_there v.target (drop (E w v) ys) f, length-drop (E w v) ys)
  end-within false f = omega (arith, ends_le v.level v.target (drop v.rank.0 ys), length-drop v.rank.0 ys, g.before)

  pub key_stands_again : KeyStands w m (key_visit w v)
  key_stands_again = by-found v.found refl
    where
      walked : KeyStands w m (cond (leb (T w v) v.left) (key_end w v (stand (cond (met w v) (suc (E w v)) (E w v)) (T w v)) (met w v)) (key_over v))
      walked = elim (test (T w v) v.left) [
        | hit e p ↦ rw e (at-rank (cond (met w v) (suc (E w v)) (E w v)) (listed g) (end-within (met w v) refl) refl)
        | miss e p ↦ rw e g
      ]

      by-found : (b : Bool) → v.found ≡ b → KeyStands w m (key_visit w v)
      by-found true f = subst (λ (u : OrdIndexVisitor). KeyStands w m u) (sym (found-stays w v f)) g
      by-found false f = subst (λ (u : OrdIndexVisitor). KeyStands w m u) (sym (visit_is w v f)) walked

-- the last stage ends where no smaller key follows
go-stop : (t : ℕ) (ys : List Node) → go 0 t (drop (go 0 t ys) ys) ≡ 0
go-stop t [] = refl
go-stop t (y ∷ ys) = let z = le-leb 0 y.height (omega arith) in elim (test (suc y.key) t) [ hit e p ↦ rw (z, e) (go-stop t ys) | miss e p ↦ rw (z, e, z, e) refl ]

ends-stop : (h t : ℕ) (ys : List Node) → go 0 t (drop (ends h t ys) ys) ≡ 0
ends-stop zero t ys = go-stop t ys
ends-stop (suc h) t ys = let d = go (suc h) t ys in ap (go 0 t) (sym (drop-drop (ends h t (drop d ys)) d ys)) ∙ ends-stop h t (drop d ys)

-- so that a walk on from there compares the next key, where there is one
abbrev pub next_ones : List Node → ℕ
next_ones [] = 0
next_ones (_ ∷ _) = 1

asks-stop : (t : ℕ) (ys : List Node) → go 0 t ys ≡ 0 → asks 0 t ys ≡ next_ones ys
asks-stop t [] e = refl
asks-stop t (y ∷ ys) e =
    let z = le-leb 0 y.height (omega arith) in
    elim (test (suc y.key) t) [ hit f p ↦ absurd (omega (arith, rw (z, f) at e)) | miss f p ↦ rw (z, f) refl ]

module _ (w : List ℕ) where
  -- what is left of a visitor whose next walk takes n comparisons and stays
  abbrev pub key_stays : OrdIndexVisitor → ℕ → OrdIndexVisitor
  key_stays u n = cond (leb n u.left) (key_at u u.current u.rank (u.left - n) false) (key_over u)

  module _ (v : OrdIndexVisitor) where
    missed : (b : Bool) → met w v ≡ b → b ≡ false → let u = key_end w v (stand (cond b (suc (E w v)) (E w v)) (T w v)) b in
        key_visit w u ≡ key_stays u (next_ones (drop u.rank.0 (nodes w v.list.0)))
    missed true f z = absurd (false≢true (sym z))
    missed false f z =
        let u = key_end w v (stand (E w v) (T w v)) false in
        let ys = nodes w v.list.0 in
        let d = drop-drop (ends v.level v.target (drop v.rank.0 ys)) v.rank.0 ys in
        let stop : go 0 v.target (drop (E w v) ys) ≡ 0 = ap (go 0 v.target) (sym d) ∙ ends-stop v.level v.target (drop v.rank.0 ys) in
        let e : E w u ≡ E w v = omega arith in
        visit_is w u refl ∙ same u e (asks-stop v.target (drop (E w v) ys) stop) (ap (λ (i : ℕ). key_is v.target (drop i ys)) e ∙ f)
      where
        same : (u : OrdIndexVisitor) {i j n k : ℕ} {b c : Bool} → i ≡ j → n ≡ k → b ≡ c
            → cond (leb n u.left) (key_end w u (stand (cond b (suc i) i) n) b) (key_over u) ≡ cond (leb k u.left) (key_end w u (stand (cond c (suc j) j) k) c) (key_over u)
        same u p q r = rw (p, q, r) refl

    -- A visitor that has missed its key: a walk on compares the next key once, where there is one, and stays.
    pub missing_again : let u = key_visit w v in u.found ≡ false → u.over ≡ false → key_visit w u ≡ key_stays u (next_ones (drop u.rank.0 (nodes w u.list.0)))
    missing_again = by-found v.found refl
      where
        Stays : OrdIndexVisitor → Type 0
        Stays u = u.found ≡ false → u.over ≡ false → key_visit w u ≡ key_stays u (next_ones (drop u.rank.0 (nodes w u.list.0)))

        by-found : (b : Bool) → v.found ≡ b → Stays (key_visit w v)
        by-found true f = subst Stays (sym (found-stays w v f)) (λ a o. absurd (false≢true (sym a ∙ f)))
        by-found false f = subst Stays (sym (visit_is w v f)) (elim (test (T w v) v.left) [
          | hit e p ↦ rw e (λ a o. missed (met w v) refl a)
          | miss e p ↦ rw e (λ a o. absurd (false≢true (sym o)))
        ])

-- ---- by rank ----
-- the walk ends at rank q, and a walk on from there stays
record Ranked (w : List ℕ) (v : IndexVisitor) (q : ℕ) (b : Bool) : Type 0 where
  within : q ≤ length (nodes w v.list.0)
  is : rank_at w v q b ≡ rank_visit w v
  stays : rank_at w v q b ≡ rank_visit w (rank_at w v q b)

module _ {w : List ℕ} {m : ℕ} (v : IndexVisitor) (g : RankStands w m v) where
  abbrev zs : List Node
  zs = nodes w v.list.0

  ranked : (q : ℕ) × (b : Bool) × Ranked w v q b
  ranked =
      let t = v.target.0 in
      let n = length zs in
      elim (test v.rank.0 t) [
        | hit e p ↦ elim (test t n) [
          | hit f q ↦ (t, true, record { within = q; is = visit_there w v p q; stays = visit_there w (rank_at w v t true) (omega arith) q })
          | miss f q ↦ (n, false, record { within = omega arith; is = visit_past w v g.before q; stays = visit_past w (rank_at w v n false) (omega arith) q })
        ]
        | miss e p ↦ (n, false, record { within = omega arith; is = visit_behind w v p; stays = visit_behind w (rank_at w v n false) (omega (arith, g.before)) })
      ]

  pub rank-stands_again : RankStands w m (rank_visit w v)
  rank-stands_again = let (q, b, r) = ranked in subst (λ (u : IndexVisitor). RankStands w m u) r.is (at-rank q (listed g) r.within refl)

  pub rank-stays : rank_visit w (rank_visit w v) ≡ rank_visit w v
  rank-stays = let (q, b, r) = ranked in subst (λ (u : IndexVisitor). rank_visit w u ≡ u) r.is (sym r.stays)
