-- A walk along a list finds it right exactly when each node by itself has its form, keys never fall, the pending links are those of the nodes
-- left, and the last slot is the one named. Rests on specs/Walked, OwnersFilled and PendingLinks.
use Prim.Native.Nat.{ℕ, zero, suc, ◌-◌, ◌≤◌, ◌<◌}
use mathlib.Core.Path.{◌≡◌, refl, sym, ap, ◌∙◌}
use mathlib.Core.List.{List, [], ◌∷◌}
use lib.ListN.{length, get_or}
use native.Mathlib.Omega.{arith}
use Rattle.model.specs.Cells.{link_at}
use Rattle.model.specs.Nodes.{Node, node, N}
use Rattle.model.specs.Passes.{LinkIs, chain}
use Rattle.model.proofs.Columns.{chain_step}
use Rattle.model.proofs.Owners.{link_from}
use Rattle.model.proofs.Tests.{hit, miss, test}
use Rattle.link_check.specs.declared.Dims.{Dims}
use Rattle.link_check.specs.EachFrom.{EachFrom}
use Rattle.link_check.specs.Shape.{NodeSlot, key_in, height_in, next_in, last_in}
use Rattle.link_check.specs.LevelLinks.{AbsentFrom, PendingReach, filled}
use Rattle.list_check.specs.Walked.{Walked}
use Rattle.link_check.proofs.OwnersFilled.{filled-above, filled-below, length-filled}
use Rattle.link_check.proofs.PendingLinks.{own_link, passes-by, link_reaches, reaches_link}

module _ (w : List ℕ) (d : Dims) where
  -- the node in slot s; n nodes from slot s on
  abbrev pub node_in : ℕ → Node
  node_in s = node s (key_in w d s) (height_in w d s)

  abbrev pub nodes_from : ℕ → ℕ → List Node
  nodes_from zero s = []
  nodes_from (suc n) s = node_in s ∷ nodes_from n (next_in w d s)

  pub chain-nodes : (n s : ℕ) → chain d.levels w n s ≡ nodes_from n s
  chain-nodes zero s = refl
  chain-nodes (suc n) s = chain_step d.levels w n s ∙ ap (λ (t : List Node). node_in s ∷ t) (chain-nodes n (next_in w d s))

  -- slot s has the form of a node that ys follow
  pub record NodeForm (s : ℕ) (ys : List Node) : Type 0 where
    pub slot : NodeSlot d s
    pub low : height_in w d s ≤ d.levels
    pub zero : last_in w d s ≡ 0
    pub links : (l : ℕ) → l < height_in w d s → LinkIs d.levels w s l ys
    pub absent : AbsentFrom w d s (height_in w d s)

  -- n nodes from slot s on have their form, and then comes N
  abbrev pub Formed : ℕ → ℕ → Type 0
  Formed zero s = s ≡ N
  Formed (suc n) s = NodeForm s (nodes_from n (next_in w d s)) × Formed n (next_in w d s)

  -- the keys of n nodes from slot s on, after key k, never fall
  abbrev pub Rises : ℕ → ℕ → ℕ → Type 0
  Rises k zero s = Unit {0}
  Rises k (suc n) s = (k ≤ key_in w d s) × Rises (key_in w d s) n (next_in w d s)

  -- the last slot of n from slot s on, after slot z
  abbrev pub last_from : ℕ → ℕ → ℕ → ℕ
  last_from z zero s = z
  last_from z (suc n) s = last_from s n (next_in w d s)

  -- the pending links at rank r, where xs are left
  pub record Pending (r : ℕ) (os qs : List ℕ) (xs : List Node) : Type 0 where
    pub link : (l : ℕ) → l < d.levels → link_at d.levels w (get_or os l 0) l ≡ link_from (r - get_or qs l 0) (suc l) xs

  -- what the rest of a walk shows
  pub record Right (e n s k z r : ℕ) (os qs : List ℕ) : Type 0 where
    pub formed : Formed n s
    pub rises : Rises k n s
    pub pending : Pending r os qs (nodes_from n s)
    pub named : last_from z n s ≡ e

  -- the arrays of the walk at rank r
  pub record Arrays (r : ℕ) (os qs : List ℕ) : Type 0 where
    pub owners : length os ≡ 16
    pub ranks : length qs ≡ 16
    pub small : d.levels ≤ 16
    pub passed : (l : ℕ) → l < d.levels → get_or qs l 0 ≤ r

  -- ---- one node, in slot s, that ys follow ----
  module _ (s r : ℕ) (os qs : List ℕ) (v : Arrays r os qs) (ys : List Node) where
    abbrev h : ℕ
    h = height_in w d s

    arrays-next : Arrays (suc r) (filled (height_in w d s) s os) (filled (height_in w d s) (suc r) qs)
    arrays-next = record {
      owners = length-filled h s os ∙ v.owners;
      ranks = length-filled h (suc r) qs ∙ v.ranks;
      small = v.small;
      passed = λ l k. elim (test (suc l) h) [
        | hit e p ↦ rw (filled-below h (suc r) qs l p (omega (arith, v.ranks, v.small))) (omega arith)
        | miss e p ↦ rw (filled-above h (suc r) qs l (omega arith)) (omega (arith, v.passed l k))
      ];
    }

    -- the pending links below its height go to it
    pending_reach : Pending r os qs (node_in s ∷ ys) → height_in w d s ≤ d.levels → PendingReach w d os qs (height_in w d s) s (suc r)
    unfolding EachFrom
    pending_reach p low = λ l z k. link_reaches w d l (get_or os l 0) (get_or qs l 0) r (node_in s) ys (v.passed l (omega arith)) k (p.link l (omega arith))

    -- after it, its own links are pending below its height, and the others as before
    pending_next : Pending r os qs (node_in s ∷ ys) → ((l : ℕ) → l < height_in w d s → LinkIs d.levels w s l ys)
        → Pending (suc r) (filled (height_in w d s) s os) (filled (height_in w d s) (suc r) qs) ys
    pending_next p links = record {
      link = λ l k. elim (test (suc l) h) [
        | hit e i ↦ rw (filled-below h s os l i (omega (arith, v.owners, v.small)), filled-below h (suc r) qs l i (omega (arith, v.ranks, v.small)))
            ((links l i).link ∙ sym (own_link (suc r) (suc l) ys))
        | miss e i ↦ rw (filled-above h s os l (omega arith), filled-above h (suc r) qs l (omega arith))
            (p.link l k ∙ passes-by (get_or qs l 0) r (suc l) (node_in s) ys (v.passed l k) (omega arith))
      ];
    }

    -- and back
    own_links : Pending (suc r) (filled (height_in w d s) s os) (filled (height_in w d s) (suc r) qs) ys → height_in w d s ≤ d.levels
        → (l : ℕ) → l < height_in w d s → LinkIs d.levels w s l ys
    own_links p low l k = record {
      link =
          (rw (filled-below h s os l k (omega (arith, v.owners, v.small)), filled-below h (suc r) qs l k (omega (arith, v.ranks, v.small)))
          at (p.link l (omega arith)))
          ∙ own_link (suc r) (suc l) ys;
    }

    pending-before : Pending (suc r) (filled (height_in w d s) s os) (filled (height_in w d s) (suc r) qs) ys
        → PendingReach w d os qs (height_in w d s) s (suc r) → Pending r os qs (node_in s ∷ ys)
    unfolding EachFrom
    pending-before p c = record {
      link = λ l k. elim (test (suc l) h) [
        | hit e i ↦ reaches_link w d l (get_or os l 0) (get_or qs l 0) r (node_in s) ys (v.passed l k) i (c l (omega arith) i)
        | miss e i ↦
            (rw (filled-above h s os l (omega arith), filled-above h (suc r) qs l (omega arith)) at (p.link l k))
            ∙ sym (passes-by (get_or qs l 0) r (suc l) (node_in s) ys (v.passed l k) (omega arith))
      ];
    }

  -- ---- the two directions ----
  pub walked-right : (e n s k z r : ℕ) (os qs : List ℕ) → Arrays r os qs → Walked w d e n s k z r os qs → Right e n s k z r os qs
  unfolding Walked EachFrom
  walked-right e zero s k z r os qs v f =
      record { formed = f.0; rises = tt; pending = record { link = λ l i. (f.2 l (omega arith) i).link }; named = f.1 }
  walked-right e (suc n) s k z r os qs v f =
      let h = height_in w d s in
      let t = next_in w d s in
      let ys = nodes_from n t in
      let m = f.0 in
      let i = walked-right e n t (key_in w d s) s (suc r) (filled h s os) (filled h (suc r) qs) (arrays-next s r os qs v ys) f.1 in
      record {
        formed = (
          record { slot = m.slot; low = m.low; zero = m.zero; links = own_links s r os qs v ys i.pending m.low; absent = m.absent },
          i.formed,
        );
        rises = (m.rises, i.rises);
        pending = pending-before s r os qs v ys i.pending m.reached;
        named = i.named;
      }

  pub right-walked : (e n s k z r : ℕ) (os qs : List ℕ) → Arrays r os qs → Right e n s k z r os qs → Walked w d e n s k z r os qs
  unfolding Walked EachFrom
  right-walked e zero s k z r os qs v f = (f.formed, f.named, λ l o i. record { link = f.pending.link l i })
  right-walked e (suc n) s k z r os qs v f =
      let h = height_in w d s in
      let t = next_in w d s in
      let ys = nodes_from n t in
      let m = f.formed.0 in
      let rest : Right e n t (key_in w d s) s (suc r) (filled h s os) (filled h (suc r) qs) = record {
        formed = f.formed.1;
        rises = f.rises.1;
        pending = pending_next s r os qs v ys f.pending m.links;
        named = f.named;
      } in (
        record {
          slot = m.slot;
          rises = f.rises.0;
          low = m.low;
          zero = m.zero;
          reached = pending_reach s r os qs v ys f.pending m.low;
          absent = m.absent;
        },
        right-walked e n t (key_in w d s) s (suc r) (filled h s os) (filled h (suc r) qs) (arrays-next s r os qs v ys) rest,
      )
