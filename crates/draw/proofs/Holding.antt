-- The link that is held between two nodes is that of the last owner before: at the beginning of a block, and from index to index. Rests on Drawing
-- and on walk's Ahead.
use Prim.Native.Nat.{ℕ, zero, suc, ◌+◌, ◌≤◌, ◌<◌}
use mathlib.Core.Path.{◌≡◌, refl, sym, subst}
use mathlib.Core.Bool.{false}
use mathlib.Core.List.{List, [], ◌∷◌}
use lib.Dec.{leb}
use lib.ListN.{length, take, drop}
use lib.Seq.{get_or-take, length-take-le}
use native.Mathlib.Omega.{arith}
use native.Mathlib.Numerals.{unary_clauses}
use Rattle.model.specs.Nodes.{Node, node, N, slot_at, height_at}
use Rattle.model.specs.Links.{further, distance, target, link_of}
use Rattle.model.specs.Closed.{last}
use Rattle.model.specs.Cells.{link_at}
use Rattle.model.specs.Passes.{decode, nodes}
use Rattle.model.proofs.Tests.{hit, miss, test}
use Rattle.model.proofs.Walk.{last_le}
use Rattle.model.proofs.Precursor.{last-node}
use Rattle.arena.specs.Linked.{words_of}
use Rattle.arena.specs.Owners.{slot_in, rank_in, Listed, NodeThere, Owner, Leads}
use Rattle.arena.specs.declared.Path.{Path}
use Rattle.arena.specs.declared.links.Link.{Link}
use Rattle.arena.proofs.Places.{its_link}
use Rattle.walk.proofs.Ahead.{look, nothing, there}
use Rattle.draw.specs.Holds.{Holds}
use Rattle.draw.specs.declared.blocks.Held.{Held}
use Rattle.draw.proofs.Drawing.{rank-before}

-- the last owner of a height before rank i is so high, and its link leads past rank i
tall-last : (M h i : ℕ) (xs : List Node) (r : ℕ) → i ≤ length xs → h ≤ M → r ≡ last h (take i xs) → h ≤ height_at M xs r
tall-last M h i xs zero l k e = k
tall-last M h i xs (suc q) l k e =
    let b : q < i = omega (arith, last_le h (take i xs), length-take-le i xs l) in
    rw (get_or-take i xs q (node N 0 0) b) at (last-node h (take i xs) q (sym e))

past-last : (h i : ℕ) (xs : List Node) → i ≤ length xs → 0 < distance h (drop (last h (take i xs)) xs)
    → i < last h (take i xs) + distance h (drop (last h (take i xs)) xs)
past-last h zero xs l = λ p. omega arith
past-last h (suc k) [] l = λ p. absurd (omega arith)
past-last h (suc k) (y ∷ ys) l = elim (test h y.height) [
  | hit e q ↦ rw e (λ p. omega (arith, past-last h k ys (omega arith) p))
  | miss e q ↦ rw e (by e (past-last h k ys (omega arith)) (last h (take k ys)) refl)
]
  where
    on : (d : ℕ) → (0 < d → k < 0 + d) → 0 < further d → suc k < 0 + further d
    on zero f p = absurd (omega arith)
    on (suc d) f p = omega (arith, f (omega arith))

    by : leb h y.height ≡ false
        → (0 < distance h (drop (last h (take k ys)) ys) → k < last h (take k ys) + distance h (drop (last h (take k ys)) ys))
        → (n : ℕ) → last h (take k ys) ≡ n
        → 0 < distance h (drop (further n) (y ∷ ys)) → suc k < further n + distance h (drop (further n) (y ∷ ys))
    by low f zero e = rw low (on (distance h ys) (rw e at f))
    by low f (suc n) e = λ p. let g = rw e at f in omega (arith, g p)

-- ---- the link of an owner ----
pub far_is : {w : List ℕ} {m a r s l : ℕ} → m ≡ (decode w).levels → Owner w a r s (suc l) → (x : Link) → words_of x ≡ link_at m w s l
    → x.distance ≡ distance (suc l) (drop r (nodes w a))
far_is {w} {m} {a} {r} {s} {l} e o x q =
    let its : link_at m w s l ≡ link_of (suc l) (drop r (nodes w a)) = rw e (its_link o l refl) in
    cc

module _ {w : List ℕ} {m a i : ℕ} {p : Path} (g : Listed w m a) (k : i ≤ length (nodes w a)) (t : Leads w m a i p) {l : ℕ} (j : l < m) where
  owner-before : Owner w a (rank_in p.ranks l) (slot_in p.slots l) (suc l)
  owner-before = record {
    passes = g.passes;
    list = g.list;
    within = omega (arith, rank-before g k t j);
    slot_is = t.before.slot l j;
    tall = tall-last (decode w).levels (suc l) i (nodes w a) (rank_in p.ranks l) k (omega (arith, g.levels)) (t.before.rank l j);
    level = omega (arith, g.levels);
  }

  pub holds-before : (x : Link) → words_of x ≡ link_at m w (slot_in p.slots l) l → Holds w a l i (record { from = rank_in p.ranks l; far = x.distance })
  holds-before x q =
      let far = far_is g.levels owner-before x q in
      record {
        owner = rw (t.before.slot l j) at owner-before;
        before = rank-before g k t j;
        far = far;
        past = rw (far, t.before.rank l j) (past-last (suc l) i (nodes w a) k);
      }

pub far_here : {w : List ℕ} {m a i s l : ℕ} → NodeThere w m a i → l < m → s ≡ slot_at a (nodes w a) (suc i) → (x : Link) → words_of x ≡ link_at m w s l
    → suc l ≤ height_at (decode w).levels (nodes w a) (i + 1) → x.distance ≡ distance (suc l) (drop (i + 1) (nodes w a))
far_here {i = i} g j e x q t =
    far_is {r = i + 1} g.listed.levels
    (record {
      passes = g.listed.passes;
      list = g.listed.list;
      within = omega (arith, g.index);
      slot_is = simp unary_clauses e;
      tall = t;
      level = omega (arith, g.listed.levels);
    })
    x q

-- ---- from index to index ----
module _ {w : List ℕ} {m a l i : ℕ} {h : Held} (g : NodeThere w m a i) (q : Holds w a l i h) where
  pub holds_on : (h.from + h.far ≡ i + 1 → ⊥) → Holds w a l (i + 1) h
  holds_on n = record {
    owner = q.owner;
    before = omega (arith, q.before);
    far = q.far;
    past = λ p. elim (test (h.from + h.far) (i + 1)) [ hit e y ↦ absurd (n (omega (arith, q.past p))) | miss e y ↦ omega arith ];
  }

  module _ (e : h.from + h.far ≡ i + 1) where
    pub tall_here : suc l ≤ height_at (decode w).levels (nodes w a) (i + 1)
    tall_here = elim (look q.owner (target (suc l) (drop h.from (nodes w a))) refl) [
      | nothing x f ↦ absurd (omega (arith, q.far, q.before))
      | there d x f o ↦
          let z : suc (h.from + d) ≡ i + 1 = omega (arith, q.far) in
          subst (λ (n : ℕ). suc l ≤ height_at (decode w).levels (nodes w a) n) z o.tall
    ]

    pub holds_here : (d : ℕ) → (suc l ≤ height_at (decode w).levels (nodes w a) (i + 1) → d ≡ distance (suc l) (drop (i + 1) (nodes w a)))
        → Holds w a l (i + 1) (record { from = i + 1; far = d })
    holds_here d f = record {
      owner = record {
        passes = q.owner.passes;
        list = q.owner.list;
        within = omega (arith, g.index);
        slot_is = refl;
        tall = tall_here;
        level = q.owner.level;
      };
      before = omega arith;
      far = f tall_here;
      past = λ p. omega arith;
    }
