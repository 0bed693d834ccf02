-- The walk by key: what each look does to the closed form, where the walk ends, and the answer of a search. Rests on walk's Ahead and model's Steps and
-- Searching.
use Prim.Native.Nat.{ℕ, zero, suc, ◌+◌, ◌-◌, ◌≤◌, ◌<◌}
use mathlib.Core.Path.{◌≡◌, refl, sym, ap, ◌∙◌}
use mathlib.Core.Bool.{Bool, true, false, cond}
use mathlib.Core.List.{List}
use lib.Dec.{eqb}
use lib.ListN.{length, drop}
use lib.Seq.{drop-drop}
use native.Mathlib.Nat.{add-suc}
use Rattle.std.specs.Prelude.{Option, Some, None}
use native.Mathlib.Omega.{arith}
use borrow.Author.Tests.{le-leb, lt-leb, lt-ltb, eq-eqb, ne_eqb}
use Rattle.model.specs.Nodes.{Node, N, key_at}
use Rattle.model.specs.Links.{distance, target}
use Rattle.model.specs.Closed.{go, asks, ends, tally, key_is}
use Rattle.model.specs.Arena.{key_column, State, list_of}
use Rattle.model.specs.Calls.{Answer, search, answer_to, searched, beyond}
use Rattle.model.specs.Cells.{cell_at}
use Rattle.model.specs.Passes.{decode, nodes}
use Rattle.model.proofs.Tests.{hit, miss, test}
use Rattle.model.proofs.Steps.{Smaller, absent_step, smaller_step, other_step}
use Rattle.model.proofs.Searching.{walk_found, walk_place, walk_tally}
use Rattle.arena.specs.Owners.{Listed}
use Rattle.walk.specs.Standing.{Standing}
use Rattle.walk.proofs.Standing.{at_head, lowered}
use Rattle.walk.proofs.Ahead.{nothing, there, look, ahead, key_none, key_first, next_one}
use Rattle.key_walk.specs.Midway.{visitor_at, Stands, end_from, tally_from, Midway, Carries, Arrived, WalkedOn}
use Rattle.key_walk.specs.declared.Visitor.{Visitor}
use Rattle.key_walk.specs.declared.Walked.{Walked}
use Rattle.key_walk.specs.declared.Walked.TheVariants.{Found, Missing}

-- ---- the closed form from one look to the next ----
-- on to a smaller key, d + 1 ranks on
ends_on : (k t : ℕ) (ys : List Node) (d : ℕ) → Smaller k t ys d → ends k t ys ≡ suc d + ends k t (drop (suc d) ys)
ends_on zero t ys d z = z.gone
ends_on (suc h) t ys d z =
    let e = go (suc h) t (drop (suc d) ys) in
    rw (z.gone, ← drop-drop e (suc d) ys) (omega arith)

tally-on : (k t : ℕ) (ys : List Node) (d : ℕ) → Smaller k t ys d → tally k t ys ≡ suc (tally k t (drop (suc d) ys))
tally-on zero t ys d z = z.asked
tally-on (suc h) t ys d z =
    let e = go (suc h) t (drop (suc d) ys) in
    rw (z.gone, z.asked, ← drop-drop e (suc d) ys) (omega arith)

asks-tally : (k t : ℕ) (ys : List Node) → asks k t ys ≤ tally k t ys
asks-tally zero t ys = omega arith
asks-tally (suc h) t ys = omega arith

-- where it begins, with the stages k and below to come
pub midway_start : {w : List ℕ} {m a k s r : ℕ} (t allowance : ℕ) → Standing w m a (length (nodes w a)) k s r
    → Midway w m a t (r + ends k t (drop r (nodes w a))) (tally k t (drop r (nodes w a))) allowance k s r allowance
midway_start t allowance g = record { stands = g; rank = refl; left = refl }

module _ {w : List ℕ} {m a t E T allowance k s r n : ℕ} (g : Midway w m a t E T allowance k s r n) where
  abbrev ys : List Node
  ys = drop r (nodes w a)

  -- the walk stays where it is and goes down, after c comparisons
  down : (l c : ℕ) → k ≡ suc l → go k t ys ≡ 0 → asks k t ys ≡ c → c ≤ n → Midway w m a t E T allowance l s r (n - c)
  down l c e p q b =
      let x = rw (e, rw e at p) at g.rank in
      let y = rw (e, rw e at p) at g.left in
      record { stands = lowered g.stands l (omega arith); rank = omega arith; left = omega (arith, rw e at q) }

  module _ (to : ℕ) (e : to ≡ target k ys) where
    pub down-absent : to ≡ N → 0 < k → Midway w m a t E T allowance (k - 1) s r n
    down-absent absent z = elim (look g.stands.owner to e) [
      | nothing x d ↦
          let j = absent_step k t ys d in
          let u : n - 0 ≡ n = omega arith in
          rw u at (down (k - 1) 0 (omega arith) j.0 j.1 (omega arith))
      | there d x y o ↦ absurd (omega arith)
    ]

    module _ (ne : to ≡ N → ⊥) where
      pub over : n ≡ 0 → allowance < T
      over z = let j = ahead g.stands e ne in elim (test t (key_at ys j.0)) [
        | hit f p ↦ omega (arith, g.left, (other_step k t ys j.0 j.1.far p).1, asks-tally k t ys)
        | miss f p ↦ omega (arith, g.left, (smaller_step k t ys j.0 j.1.far p).asked, asks-tally k t ys)
      ]

      module _ (pos : n ≡ 0 → ⊥) (met : ℕ) (f : met ≡ cell_at m w to key_column) where
        pub down-other : (met < t → ⊥) → 0 < k → Midway w m a t E T allowance (k - 1) s r (n - 1)
        down-other b z =
            let j = ahead g.stands e ne in
            let o = other_step k t ys j.0 j.1.far (elim (test t met) [ hit x p ↦ omega (arith, f ∙ j.1.key) | miss x p ↦ absurd (b p) ]) in
            down (k - 1) 1 (omega arith) o.0 o.1 (omega arith)

        pub go_there : met < t → {far q : ℕ} → far ≡ distance k ys → q ≡ r + far → Midway w m a t E T allowance k to q (n - 1)
        go_there l {far} {q} i p =
            let j = ahead g.stands e ne in
            let d = j.0 in
            let z = smaller_step k t ys d j.1.far (omega (arith, f ∙ j.1.key)) in
            let u : suc (r + d) ≡ q = omega (arith, j.1.far) in
            let v : drop (suc d) ys ≡ drop q (nodes w a)
            = drop-drop (suc d) r (nodes w a) ∙ ap (λ (x : ℕ). drop x (nodes w a)) (add-suc r d ∙ u) in
            record {
              stands = rw u at j.1.stands;
              rank = omega (arith, g.rank, rw v at (ends_on k t ys d z), u);
              left = omega (arith, g.left, rw v at (tally-on k t ys d z));
            }

-- ---- where the last stage ends ----
module _ {w : List ℕ} {m a t E T allowance s r n : ℕ} (g : Midway w m a t E T allowance 0 s r n) (to : ℕ) (e : to ≡ target 0 (drop r (nodes w a))) where
  abbrev zs : List Node
  zs = drop r (nodes w a)

  -- at slot p of rank q, after c comparisons more
  ended : (met : Bool) (c p q : ℕ) → go 0 t zs ≡ 0 → asks 0 t zs ≡ c → c ≤ n → key_is t zs ≡ met → Standing w m a (length (nodes w a)) 0 p q → q ≡ cond met (suc r) r
      → Arrived w m a t E T allowance met p q (n - c)
  ended met c p q x y b i k z =
      let here : r ≡ E = omega (arith, g.rank) in
      record { stands = k; is = rw here at i; rank = rw here at z; left = omega (arith, g.left) }

  pub ends-absent : to ≡ N → Arrived w m a t E T allowance false s r n
  ends-absent z = elim (look g.stands.owner to e) [
    | nothing x d ↦
        let k = absent_step 0 t zs d in
        let u : n - 0 ≡ n = omega arith in
        rw u at (ended false 0 s r k.0 k.1 (omega arith) (key_none t zs d) g.stands refl)
    | there d x y o ↦ absurd (omega arith)
  ]

  module _ (ne : to ≡ N → ⊥) (pos : n ≡ 0 → ⊥) (met : ℕ) (f : met ≡ cell_at m w to key_column) where
    ends_at : (b : Bool) (p q : ℕ) → eqb met t ≡ b → t ≤ met → Standing w m a (length (nodes w a)) 0 p q → q ≡ cond b (suc r) r → Arrived w m a t E T allowance b p q (n - 1)
    ends_at b p q i l k z =
        let j = ahead g.stands e ne in
        let o = other_step 0 t zs j.0 j.1.far (omega (arith, f ∙ j.1.key)) in
        let x = key_first t zs j.0 j.1.far ∙ ap (λ (y : ℕ). eqb y t) (sym (f ∙ j.1.key)) ∙ i in
        ended b 1 p q o.0 o.1 (omega arith) x k z

    pub ends_greater : t < met → Arrived w m a t E T allowance false s r (n - 1)
    ends_greater l = ends_at false s r (ne_eqb met t (λ z. omega arith)) (omega arith) g.stands refl

    pub ends_equal : t ≡ met → (q : ℕ) → q ≡ r + 1 → Arrived w m a t E T allowance true to q (n - 1)
    ends_equal l q p =
        let j = ahead g.stands e ne in
        let u : suc (r + j.0) ≡ q = omega (arith, j.1.far, next_one g.stands e ne) in
        ends_at true to q (eq-eqb met t (sym l)) (omega arith) (rw u at j.1.stands) (omega arith)

-- ---- the last stage after the others ----
module _ {w : List ℕ} {m a t j : ℕ} {from v : Visitor} (g : Carries w m a t j from 0 v) where
  then_ends : {met : Bool} {s r n : ℕ} → Arrived w m a t (end_from w a t 0 v) (tally_from w a t 0 v) v.left met s r n
      → Arrived w m a t (end_from w a t j from) (tally_from w a t j from) from.left met s r n
  then_ends z = record { stands = z.stands; is = rw g.midway.rank at z.is; rank = rw g.midway.rank at z.rank; left = omega (arith, g.midway.left, z.left) }

  pub then_walked : (r : Option Walked) → WalkedOn w m a t 0 v r → WalkedOn w m a t j from r
  then_walked (Some (Found u)) z = then_ends z
  then_walked (Some (Missing u)) z = then_ends z
  then_walked None z = omega (arith, g.midway.left, z)

-- ---- the model's answer ----
module _ (S : State) (a t allowance : ℕ) (l : a < length S.lists) where
  abbrev xs : List Node
  xs = list_of S a

  ended-answer : (met : Bool) (i n : ℕ) → i ≡ ends S.levels t xs → key_is t (drop i xs) ≡ met → n ≡ tally S.levels t xs → n ≤ allowance
      → searched met i n ≡ answer_to S (search a t allowance)
  ended-answer met i n p q k b =
      let M = S.levels in
      rw (lt-ltb a (length S.lists) l, walk_tally M t xs, ← k, le-leb n allowance b, walk_found M t xs, walk_place M t xs, ← p, q) refl

  beyond-answer : allowance < tally S.levels t xs → beyond allowance ≡ answer_to S (search a t allowance)
  beyond-answer b = rw (lt-ltb a (length S.lists) l, walk_tally S.levels t xs, lt-leb (tally S.levels t xs) allowance b) refl

-- ---- as the code asks, of a walk from the head ----
module _ {w : List ℕ} {m a : ℕ} (t allowance : ℕ) (g : Listed w m a) where
  abbrev from : Visitor
  from = visitor_at m (record { 0 = a }) (record { 0 = 0 }) allowance

  abbrev model_answer : Answer
  model_answer = answer_to (decode w) (search a t allowance)

  pub starts : Stands w m a m from
  starts = record { stands = at_head g (omega arith); base = refl }

  whole-end : end_from w a t m from ≡ ends (decode w).levels t (nodes w a)
  whole-end = rw g.levels (omega arith)

  whole-tally : tally_from w a t m from ≡ tally (decode w).levels t (nodes w a)
  whole-tally = rw g.levels refl

  pub answers_beyond : allowance < tally_from w a t m from → beyond allowance ≡ model_answer
  answers_beyond l = beyond-answer (decode w) a t allowance g.list (omega (arith, whole-tally))

  pub answers_ended : {met : Bool} {s r n : ℕ} → Arrived w m a t (end_from w a t m from) (tally_from w a t m from) allowance met s r n → (i : ℕ) → cond met (suc i) i ≡ r
      → searched met i (allowance - n) ≡ model_answer
  answers_ended {met} z i e =
      let p : i ≡ end_from w a t m from = same met (e ∙ z.rank) in
      ended-answer (decode w) a t allowance g.list met i _ (p ∙ whole-end) (rw p z.is) (omega (arith, z.left, whole-tally)) (omega arith)
    where
      same : (b : Bool) {x y : ℕ} → cond b (suc x) x ≡ cond b (suc y) y → x ≡ y
      same true q = omega arith
      same false q = q
