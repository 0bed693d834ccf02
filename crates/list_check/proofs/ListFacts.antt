-- What the walk along a list has shown, in the words of document 01's clauses, and back. Rests on Formed and model's Chained.
use Prim.Native.Nat.{ℕ, zero, suc, ◌≤◌, ◌<◌}
use mathlib.Core.Path.{◌≡◌, refl, sym, ap, ◌∙◌, subst}
use mathlib.Core.List.{List, [], ◌∷◌, ◌++◌}
use lib.ListN.{length, replicate, get_or-replicate, length-append}
use lib.Seq.{append_snoc}
use native.Mathlib.Omega.{arith}
use Rattle.model.specs.Arena.{last_slot}
use Rattle.model.specs.Nodes.{Node, N, Above, Sorted, Low}
use Rattle.model.specs.Passes.{LinkIs, Chained}
use Rattle.model.proofs.Chained.{chained_more, chained-next}
use Rattle.link_check.specs.declared.Dims.{Dims}
use Rattle.link_check.specs.Shape.{NodeSlot, Shape, count_in, key_in, height_in, next_in, last_in}
use Rattle.list_check.specs.Walked.{ListOk}
use Rattle.list_check.proofs.Formed.{node_in, nodes_from, NodeForm, Formed, Rises, last_from, Arrays, walked-right, right-walked}
use Rattle.link_check.proofs.PendingLinks.{own_link}

above_less : (k j : ℕ) (ys : List Node) → k ≤ j → Above j ys → Above k ys
above_less k j [] l a = tt
above_less k j (y ∷ ys) l a = (omega (arith, a.0), above_less k j ys l a.1)

above-none : (ys : List Node) → Above 0 ys
above-none [] = tt
above-none (y ∷ ys) = (omega arith, above-none ys)

module _ (w : List ℕ) (d : Dims) where
  -- ---- from what the walk has shown ----
  pub formed-chained : (n s : ℕ) → Formed w d n s → Chained d.lists d.levels d.room w n s
  formed-chained zero s f = record { through = λ j l. absurd (omega arith); ends = f }
  formed-chained (suc n) s f =
      let t = next_in w d s in
      chained_more d.lists d.levels d.room w n s t refl (f.0.slot.from, f.0.slot.below) (formed-chained n t f.1)

  rises_sorted : (k n s : ℕ) → Rises w d k n s → Above k (nodes_from w d n s) × Sorted (nodes_from w d n s)
  rises_sorted k zero s f = (tt, tt)
  rises_sorted k (suc n) s f =
      let t = next_in w d s in
      let i = rises_sorted (key_in w d s) n t f.1 in
      ((f.0, above_less k (key_in w d s) (nodes_from w d n t) f.0 i.0), i)

  pub formed-low : (n s : ℕ) → Formed w d n s → Low d.levels (nodes_from w d n s)
  formed-low zero s f = tt
  formed-low (suc n) s f = (f.0.low, formed-low n (next_in w d s) f.1)

  -- any node of the list has its form
  pub formed_mid : (n s : ℕ) (aa : List Node) (y : Node) (ys : List Node) → Formed w d n s → nodes_from w d n s ≡ aa ++ y ∷ ys
      → NodeForm w d y.slot ys × (height_in w d y.slot ≡ y.height)
  formed_mid zero s aa y ys f e = absurd (omega (arith, ap length e, length-append aa (y ∷ ys)))
  formed_mid (suc n) s [] y ys f e =
      let p : node_in w d s ≡ y = cc in
      let q : nodes_from w d n (next_in w d s) ≡ ys = cc in
      subst (λ (z : Node). NodeForm w d z.slot ys × (height_in w d z.slot ≡ z.height)) p (subst (λ (zs : List Node). NodeForm w d s zs) q f.0, refl)
  formed_mid (suc n) s (a ∷ aa) y ys f e = formed_mid n (next_in w d s) aa y ys f.1 (cc)

  last-after : (z n s : ℕ) → last_from w d z (suc n) s ≡ last_slot (nodes_from w d (suc n) s)
  last-after z zero s = refl
  last-after z (suc n) s = last-after s n (next_in w d s)

  last-is : (n s : ℕ) → last_from w d N n s ≡ last_slot (nodes_from w d n s)
  last-is zero s = refl
  last-is (suc n) s = last-after N n s

  -- ---- back ----
  sorted_rises : (k n s : ℕ) → Above k (nodes_from w d n s) → Sorted (nodes_from w d n s) → Rises w d k n s
  sorted_rises k zero s a f = tt
  sorted_rises k (suc n) s a f = (a.0, sorted_rises (key_in w d s) n (next_in w d s) f.0 f.1)

  -- each node of the list xs has its form, so the part of it from slot s on is formed
  pub forms_formed : (xs : List Node)
      → ((aa : List Node) (y : Node) (ys : List Node) → xs ≡ aa ++ y ∷ ys → height_in w d y.slot ≡ y.height → NodeSlot d y.slot → NodeForm w d y.slot ys)
      → (n s : ℕ) (aa : List Node) → xs ≡ aa ++ nodes_from w d n s → Chained d.lists d.levels d.room w n s → Formed w d n s
  forms_formed xs h zero s aa e c = c.ends
  forms_formed xs h (suc n) s aa e c =
      let y = node_in w d s in
      let t = next_in w d s in
      let ys = nodes_from w d n t in
      let p = c.through 0 (omega arith) in (
        h aa y ys e refl (record { from = p.0; below = p.1 }),
        forms_formed xs h n t (aa ++ y ∷ []) (e ∙ sym (append_snoc aa y ys)) (chained-next d.lists d.levels d.room w n s c),
      )

  -- ---- the list of head a ----
  abbrev pub list_in : ℕ → List Node
  list_in a = nodes_from w d (count_in w d a) (next_in w d a)

  pub record ListFacts (a : ℕ) : Type 0 where
    pub height : height_in w d a ≡ d.levels
    pub formed : Formed w d (count_in w d a) (next_in w d a)
    pub sorted : Sorted (list_in a)
    pub links : (l : ℕ) → l < d.levels → LinkIs d.levels w a l (list_in a)
    pub named : last_in w d a ≡ last_slot (list_in a)

  module _ (v : Shape w d) (a : ℕ) where
    arrays : Arrays w d 0 (replicate 16 a) (replicate 16 0)
    arrays = record {
      owners = refl;
      ranks = refl;
      small = v.ranges.levels_most;
      passed = λ l k. rw (get_or-replicate {A = ℕ} 16 l 0 0 (omega (arith, v.ranges.levels_most))) (omega arith);
    }

    pub list-facts : ListOk w d a → ListFacts a
    list-facts f =
        let n = count_in w d a in
        let s = next_in w d a in
        let r = walked-right w d (last_in w d a) n s 0 N 0 (replicate 16 a) (replicate 16 0) arrays f.walk in
        record {
          height = f.height;
          formed = r.formed;
          sorted = (rises_sorted 0 n s r.rises).1;
          links = λ l k.
              let i : l < 16 = omega (arith, v.ranges.levels_most) in
              record { link = (rw (get_or-replicate 16 l a 0 i, get_or-replicate {A = ℕ} 16 l 0 0 i) at (r.pending.link l k)) ∙ own_link 0 (suc l) (list_in a) };
          named = sym r.named ∙ last-is n s;
        }

    pub facts-list : ListFacts a → ListOk w d a
    facts-list f =
        let n = count_in w d a in
        let s = next_in w d a in
        record {
          height = f.height;
          walk = right-walked w d (last_in w d a) n s 0 N 0 (replicate 16 a) (replicate 16 0) arrays (record {
            formed = f.formed;
            rises = sorted_rises 0 n s (above-none (list_in a)) f.sorted;
            pending = record {
              link = λ l k.
                  let i : l < 16 = omega (arith, v.ranges.levels_most) in
                  rw (get_or-replicate 16 l a 0 i, get_or-replicate {A = ℕ} 16 l 0 0 i) ((f.links l k).link ∙ sym (own_link 0 (suc l) (list_in a)));
            };
            named = last-is n s ∙ sym f.named;
          });
        }
