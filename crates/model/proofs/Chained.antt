-- Chains that go through node slots only and end at N: what stands at each place of one. Rests on specs/Passes and Columns.
use Prim.Native.Nat.{ℕ, zero, suc, ◌+◌, ◌*◌, ◌≤◌, ◌<◌}
use mathlib.Core.Path.{◌≡◌, refl, sym, ap, ◌∙◌, subst}
use mathlib.Core.List.{List, [], ◌∷◌, ◌++◌}
use lib.ListN.{length, get_or, length-append, get_or-append}
use lib.Seq.{get_or-append-add}
use native.Mathlib.Omega.{arith}
use Rattle.model.specs.Arena.{to_column, first_slot, first_free, absent_links, free_words}
use Rattle.model.specs.Links.{link_words, absent_link}
use Rattle.model.specs.Cells.{cell_at}
use Rattle.model.specs.Nodes.{Node, node, N}
use Rattle.model.specs.Passes.{chain, free_chain, times, times_all, times_free, after, Chained, Each}
use Rattle.model.proofs.Columns.{chain_step, free_step, first-chain, first_free_lem}
use Rattle.model.proofs.Tests.{same, other, same?}

-- the words of node y, that ys follow
pub record StandsAt (L M C : ℕ) (w : List ℕ) (y : Node) (ys : List Node) : Type 0 where
  pub key : cell_at M w y.slot 0 ≡ y.key
  pub height : cell_at M w y.slot 1 ≡ y.height
  pub next : cell_at M w y.slot 2 ≡ first_slot ys
  pub from : L ≤ y.slot
  pub below : y.slot < L + C

pub record StandsFree (L M C : ℕ) (w : List ℕ) (f : ℕ) (fs : List ℕ) : Type 0 where
  pub next : cell_at M w f 2 ≡ first_free fs
  pub from : L ≤ f
  pub below : f < L + C

module _ (L M C : ℕ) (w : List ℕ) where
  pub chained-next : (n s : ℕ) → Chained L M C w (suc n) s → Chained L M C w n (cell_at M w s 2)
  chained-next n s h = record { through = λ j l. h.through (suc j) (omega arith); ends = h.ends }

  pub chained-none : (n s : ℕ) → Chained L M C w n s → n ≡ 0 → s ≡ N
  chained-none zero s h e = h.ends
  chained-none (suc n) s h e = absurd (omega arith)

  -- one step more in front
  pub chained_more : (n s t : ℕ) → cell_at M w s 2 ≡ t → (L ≤ s) × (s < L + C) → Chained L M C w n t → Chained L M C w (suc n) s
  chained_more n s t e p h = record { through = through; ends = rw e h.ends }
    where
      through : (j : ℕ) → j < suc n → (L ≤ after M w j s) × (after M w j s < L + C)
      through zero l = p
      through (suc j) l = rw e (h.through j (omega arith))

  pub stands : (n s : ℕ) (aa : List Node) (y : Node) (ys : List Node) → Chained L M C w n s → chain M w n s ≡ aa ++ y ∷ ys → StandsAt L M C w y ys
  stands zero s aa y ys h e = absurd (omega (arith, ap length e, length-append aa (y ∷ ys)))
  stands (suc n) s [] y ys h e =
      let g : node s (cell_at M w s 0) (cell_at M w s 1) ∷ chain M w n (cell_at M w s 2) ≡ y ∷ ys = sym (chain_step M w n s) ∙ e in
      let p : node s (cell_at M w s 0) (cell_at M w s 1) ≡ y = cc in
      let q : chain M w n (cell_at M w s 2) ≡ ys = cc in
      let t = chained-next n s h in
      subst (λ (z : Node). StandsAt L M C w z ys) p
      (subst (λ (z : List Node). StandsAt L M C w (node s (cell_at M w s 0) (cell_at M w s 1)) z) q
      (record {
        key = refl;
        height = refl;
        next = sym (first-chain M w n (cell_at M w s 2) (chained-none n (cell_at M w s 2) t));
        from = (h.through 0 (omega arith)).0;
        below = (h.through 0 (omega arith)).1;
      }))
  stands (suc n) s (a ∷ aa) y ys h e =
      let g : node s (cell_at M w s 0) (cell_at M w s 1) ∷ chain M w n (cell_at M w s 2) ≡ a ∷ (aa ++ y ∷ ys) = sym (chain_step M w n s) ∙ e in
      stands n (cell_at M w s 2) aa y ys (chained-next n s h) (cc)

  pub stands_free : (n s : ℕ) (gs : List ℕ) (f : ℕ) (fs : List ℕ) → Chained L M C w n s → free_chain M w n s ≡ gs ++ f ∷ fs → StandsFree L M C w f fs
  stands_free zero s gs f fs h e = absurd (omega (arith, ap length e, length-append gs (f ∷ fs)))
  stands_free (suc n) s [] f fs h e =
      let g : s ∷ free_chain M w n (cell_at M w s 2) ≡ f ∷ fs = sym (free_step M w n s) ∙ e in
      let p : s ≡ f = cc in
      let q : free_chain M w n (cell_at M w s 2) ≡ fs = cc in
      let t = chained-next n s h in
      subst (λ (z : ℕ). StandsFree L M C w z fs) p
      (subst (λ (z : List ℕ). StandsFree L M C w s z) q
      (record {
        next = sym (first_free_lem M w n (cell_at M w s 2) (chained-none n (cell_at M w s 2) t));
        from = (h.through 0 (omega arith)).0;
        below = (h.through 0 (omega arith)).1;
      }))
  stands_free (suc n) s (a ∷ gs) f fs h e =
      let g : s ∷ free_chain M w n (cell_at M w s 2) ≡ a ∷ (gs ++ f ∷ fs) = sym (free_step M w n s) ∙ e in
      stands_free n (cell_at M w s 2) gs f fs (chained-next n s h) (cc)

  -- a slot that is no node's is in no chain
  module _ (x : ℕ) (out : L ≤ x → x < L + C → ⊥) where
    pub chain_out : (n s : ℕ) → Chained L M C w n s → times x (chain M w n s) ≡ 0
    chain_out zero s h = refl
    chain_out (suc n) s h = subst (λ (t : List Node). times x t ≡ 0) (sym (chain_step M w n s)) (elim (same? s x) [
      | same e p ↦ let r = h.through 0 (omega arith) in absurd (out (omega arith) (omega arith))
      | other e p ↦ rw e (chain_out n (cell_at M w s 2) (chained-next n s h))
    ])

    pub free_out : (n s : ℕ) → Chained L M C w n s → times_free x (free_chain M w n s) ≡ 0
    free_out zero s h = refl
    free_out (suc n) s h = subst (λ (t : List ℕ). times_free x t ≡ 0) (sym (free_step M w n s)) (elim (same? s x) [
      | same e p ↦ let r = h.through 0 (omega arith) in absurd (out (omega arith) (omega arith))
      | other e p ↦ rw e (free_out n (cell_at M w s 2) (chained-next n s h))
    ])

pub none-all : (x : ℕ) (xss : List (List Node)) → ((a : ℕ) → a < length xss → times x (get_or xss a []) ≡ 0) → times_all x xss ≡ 0
none-all x [] h = refl
none-all x (xs ∷ xss) h = omega (arith, h 0 (omega arith), none-all x xss (λ a l. h (suc a) (omega arith)))

pub each_all : (P : List Node → Type 0) (xss : List (List Node)) → ((a : ℕ) → a < length xss → P (get_or xss a [])) → Each P xss
each_all P [] h = tt
each_all P (xs ∷ xss) h = (h 0 (omega arith), each_all P xss (λ a l. h (suc a) (omega arith)))

pub absent-at : (n l j : ℕ) → l < n → j < link_words → get_or (absent_links n) (link_words * l + j) 0 ≡ get_or absent_link j 0
absent-at zero l j p q = absurd (omega arith)
absent-at (suc n) zero j p q = let e : link_words * 0 + j ≡ j = omega arith in rw e (get_or-append absent_link (absent_links n) 0 j q)
absent-at (suc n) (suc l) j p q =
    let e : link_words * suc l + j ≡ link_words + (link_words * l + j) = omega arith in
    rw e (get_or-append-add absent_link (absent_links n) (link_words * l + j) 0 ∙ absent-at n l j (omega arith) q)

-- a free node's links are absent
pub free_field : (M : ℕ) (fs : List ℕ) (l j : ℕ) → l < M → j < link_words → get_or (free_words M fs) (to_column l + j) 0 ≡ get_or absent_link j 0
free_field M fs l j k q =
    let e : to_column l + j ≡ suc (suc (suc (suc (link_words * l + j)))) = omega arith in
    ap (λ (c : ℕ). get_or (free_words M fs) c 0) e ∙ absent-at M l j k q
