-- The precursors: where a walk along a stage stops, and those noted so far, from the highest level down. Rests on specs/Standing and model's walks.
use Prim.Native.Nat.{ℕ, zero, suc, ◌+◌, ◌-◌, ◌≤◌, ◌<◌}
use mathlib.Core.Path.{◌≡◌, refl, sym, ap, ◌∙◌}
use mathlib.Core.List.{List, [], ◌∷◌}
use lib.ListN.{length, take, drop, set, replicate, get_or-replicate, length-set, length-drop}
use lib.Seq.{get_or-drop, get_or-take, length-take-le, get_or-set_same, get_or-set_other}
use native.Mathlib.Omega.{arith}
use Rattle.model.specs.Nodes.{Node, node, N, at, slot_at}
use Rattle.model.specs.Links.{further, distance}
use Rattle.model.specs.Closed.{last}
use Rattle.model.specs.Passes.{nodes}
use Rattle.model.proofs.Tests.{hit, miss, test}
use Rattle.model.proofs.Walk.{last_le}
use Rattle.model.proofs.Precursor.{last-node}
use Rattle.arena.specs.Owners.{slot_in, rank_in, Listed, Before}
use Rattle.arena.specs.declared.Slot.{Slot}
use Rattle.arena.specs.declared.Rank.{Rank}
use Rattle.walk.specs.Standing.{Standing, Sought}

last_ge : (h : ℕ) (aa : List Node) (j : ℕ) → j < length aa → h ≤ (at aa j).height → suc j ≤ last h aa
last_ge h [] j l t = absurd (omega arith)
last_ge h (y ∷ ys) zero l t = elim (test h y.height) [ hit e p ↦ rw e (omega arith) | miss e p ↦ absurd (omega arith) ]
last_ge h (y ∷ ys) (suc j) l t = elim (test h y.height) [
  | hit e p ↦ rw e (omega (arith, last_ge h ys j (omega arith) t))
  | miss e p ↦ rw e (on (last h ys) (last_ge h ys j (omega arith) t))
]
  where
    on : (d : ℕ) → suc j ≤ d → suc (suc j) ≤ further d
    on zero l = absurd (omega arith)
    on (suc d) l = omega arith

distance-first : (h : ℕ) (ys : List Node) (j : ℕ) → j < length ys → h ≤ (at ys j).height → (0 < distance h ys) × (distance h ys ≤ suc j)
distance-first h [] j l t = absurd (omega arith)
distance-first h (y ∷ ys) zero l t = elim (test h y.height) [ hit e p ↦ rw e (omega arith, omega arith) | miss e p ↦ absurd (omega arith) ]
distance-first h (y ∷ ys) (suc j) l t = elim (test h y.height) [
  | hit e p ↦ rw e (omega arith, omega arith)
  | miss e p ↦ rw e (on (distance h ys) (distance-first h ys j (omega arith) t))
]
  where
    on : (d : ℕ) → (0 < d) × (d ≤ suc j) → (0 < further d) × (further d ≤ suc (suc j))
    on zero l = absurd (omega arith)
    on (suc d) l = (omega arith, omega arith)

module _ {w : List ℕ} {m a i h s r : ℕ} (g : Standing w m a i h s r) where
  abbrev xs : List Node
  xs = nodes w a

  -- where a walk stands is at most the rank of the last
  at_most : r ≤ last h (take i xs)
  at_most = by r refl
    where
      by : (k : ℕ) → r ≡ k → k ≤ last h (take i xs)
      by zero e = omega arith
      by (suc j) e =
          let l : j < i = omega (arith, g.before) in
          let t : h ≤ (at xs j).height = rw e at g.owner.tall in
          last_ge h (take i xs) j (omega (arith, length-take-le i xs g.within)) (rw (get_or-take i xs j (node N 0 0) l) t)

  -- and where no link leads on within i, it is the last
  pub sought : (0 < distance h (drop r xs) → i < r + distance h (drop r xs)) → Sought w m a i h s r
  sought f = record { stands = g; last_one = by (last h (take i xs)) refl }
    where
      by : (k : ℕ) → last h (take i xs) ≡ k → r ≡ last h (take i xs)
      by zero e = omega (arith, at_most)
      by (suc j) e = elim (test (suc r) (suc j)) [
        | miss t l ↦ omega (arith, at_most)
        | hit t l ↦
            let len = length-take-le i xs g.within in
            let b : suc j ≤ i = omega (arith, last_le h (take i xs)) in
            let ht = rw (get_or-take i xs j (node N 0 0) b) at (last-node h (take i xs) j e) in
            let z : r + (j - r) ≡ j = omega arith in
            let d = distance-first h (drop r xs) (j - r) (omega (arith, length-drop r xs, g.within)) (rw (get_or-drop r xs (j - r) (node N 0 0), z) ht) in
            absurd (omega (arith, f d.0, d.1))
      ]

-- nothing lies before index 0: the head is the precursor of every level
pub none_before : {w : List ℕ} {m a : ℕ} → Listed w m a → Before w m a 0 (replicate 16 (record { 0 = a })) (replicate 16 (record { 0 = 0 }))
none_before {w} {m} {a} g =
    let few : m ≤ 16 = omega (arith, g.levels, g.passes.sizes.levels_most) in
    let head : Slot = record { 0 = a } in
    let none : Rank = record { 0 = 0 } in
    let rank-0 : (l : ℕ) → l < m → rank_in (replicate 16 none) l ≡ 0 = λ l k. ap (λ (r : Rank). r.0) (get_or-replicate 16 l none none (omega arith)) in
    record {
      rank = rank-0;
      slot = λ l k. ap (λ (s : Slot). s.0) (get_or-replicate 16 l head (record { 0 = 0 }) (omega arith)) ∙ sym (ap (slot_at a (nodes w a)) (rank-0 l k));
    }

-- ---- the precursors noted from level k on ----
pub record Noted (w : List ℕ) (m a i k : ℕ) (slots : List Slot) (ranks : List Rank) : Type 0 where
  pub long : (length slots ≡ 16) × (length ranks ≡ 16)
  pub rank : (l : ℕ) → k ≤ l → l < m → rank_in ranks l ≡ last (suc l) (take i (nodes w a))
  pub slot : (l : ℕ) → k ≤ l → l < m → slot_in slots l ≡ slot_at a (nodes w a) (rank_in ranks l)

pub noted-none : {w : List ℕ} {m a i : ℕ} {slots : List Slot} {ranks : List Rank} → (length slots ≡ 16) × (length ranks ≡ 16) → Noted w m a i m slots ranks
noted-none e = record { long = e; rank = λ l p q. absurd (omega arith); slot = λ l p q. absurd (omega arith) }

pub noted-all : {w : List ℕ} {m a i k : ℕ} {slots : List Slot} {ranks : List Rank} → k ≤ 0 → Noted w m a i k slots ranks → Before w m a i slots ranks
noted-all z n = record { rank = λ l q. n.rank l (omega arith) q; slot = λ l q. n.slot l (omega arith) q }

-- one level more: the walk has stopped along stage k
pub noted_more : {w : List ℕ} {m a i k : ℕ} {s : Slot} {r : Rank} {slots : List Slot} {ranks : List Rank} → 0 < k → Sought w m a i k s.0 r.0 → Noted w m a i k slots ranks
    → Noted w m a i (k - 1) (set slots (k - 1) s) (set ranks (k - 1) r)
noted_more {k = zero} z f n = absurd (omega arith)
noted_more {w = w} {a = a} {k = suc l} {s = s} {r = r} {slots = slots} {ranks = ranks} z f n =
    let fits : l < 16 = omega (arith, f.stands.owner.level, f.stands.owner.passes.sizes.levels_most) in
    let noted : rank_in (set ranks l r) l ≡ r.0 = ap (λ (x : Rank). x.0) (get_or-set_same ranks l r (record { 0 = 0 }) (omega (arith, n.long))) in
    let above : (j : ℕ) → suc l ≤ j → rank_in (set ranks l r) j ≡ rank_in ranks j
    = λ j y. ap (λ (x : Rank). x.0) (get_or-set_other ranks l j r (record { 0 = 0 }) (λ z. omega arith)) in
    let e : suc l - 1 ≡ l = omega arith in
    rw e (record {
      long = (length-set slots l s ∙ n.long.0, length-set ranks l r ∙ n.long.1);
      rank = λ j p q. elim (test (suc l) j) [
        | hit t y ↦ above j y ∙ n.rank j y q
        | miss t y ↦ let z : j ≡ l = omega arith in rw z (noted ∙ f.last_one)
      ];
      slot = λ j p q. elim (test (suc l) j) [
        | hit t y ↦ ap (λ (x : Slot). x.0) (get_or-set_other slots l j s (record { 0 = 0 }) (λ z. omega arith)) ∙ n.slot j y q ∙ ap (slot_at a (nodes w a)) (sym (above j y))
        | miss t y ↦
            let z : j ≡ l = omega arith in
            rw z (ap (λ (x : Slot). x.0) (get_or-set_same slots l s (record { 0 = 0 }) (omega (arith, n.long))) ∙ f.stands.owner.slot_is ∙ ap (slot_at a (nodes w a)) (sym noted))
      ];
    })
