-- What the walk along the free chain has shown, in the words of document 01's clauses, and back. Rests on specs/FreeChain and model's Chained.
use Prim.Native.Nat.{ℕ, zero, suc}
use mathlib.Core.Path.{◌≡◌, refl, sym, ap, ◌∙◌, subst}
use mathlib.Core.List.{List, [], ◌∷◌, ◌++◌}
use lib.ListN.{length, length-append}
use lib.Seq.{append_snoc}
use native.Mathlib.Omega.{arith}
use Rattle.model.specs.Nodes.{N}
use Rattle.model.specs.Passes.{Chained, free_chain}
use Rattle.model.proofs.Apart.{ends_at}
use Rattle.model.proofs.Chained.{chained_more, chained-next}
use Rattle.model.proofs.Columns.{free_step}
use Rattle.link_check.specs.declared.Dims.{Dims}
use Rattle.link_check.specs.Shape.{NodeSlot, height_in, next_in}
use Rattle.arena_check.specs.FreeChain.{FreeNode, FreeFrom}

module _ (w : List ℕ) (d : Dims) where
  pub free_chained : (n s : ℕ) → FreeFrom w d n s → Chained d.lists d.levels d.room w n s
  unfolding FreeFrom
  free_chained zero s f = record { through = λ j l. absurd (omega arith); ends = f }
  free_chained (suc n) s f =
      let t = next_in w d s in
      chained_more d.lists d.levels d.room w n s t refl (f.0.slot.from, f.0.slot.below) (free_chained n t f.1)

  pub free_node_form : (n s : ℕ) (gs : List ℕ) (f : ℕ) (fs : List ℕ) → FreeFrom w d n s → free_chain d.levels w n s ≡ gs ++ f ∷ fs → FreeNode w d f
  unfolding FreeFrom
  free_node_form zero s gs f fs h e = absurd (omega (arith, ap length e, length-append gs (f ∷ fs)))
  free_node_form (suc n) s [] f fs h e =
      let g : s ∷ free_chain d.levels w n (next_in w d s) ≡ f ∷ fs = sym (free_step d.levels w n s) ∙ e in
      let p : s ≡ f = cc in
      subst (λ (z : ℕ). FreeNode w d z) p h.0
  free_node_form (suc n) s (a ∷ gs) f fs h e =
      let g : s ∷ free_chain d.levels w n (next_in w d s) ≡ a ∷ (gs ++ f ∷ fs) = sym (free_step d.levels w n s) ∙ e in
      free_node_form n (next_in w d s) gs f fs h.1 (cc)

  pub forms_free : (F : List ℕ) → ((gs : List ℕ) (f : ℕ) (fs : List ℕ) → F ≡ gs ++ f ∷ fs → NodeSlot d f → FreeNode w d f)
      → (n s : ℕ) (gs : List ℕ) → F ≡ gs ++ free_chain d.levels w n s → Chained d.lists d.levels d.room w n s → FreeFrom w d n s
  unfolding FreeFrom
  forms_free F h zero s gs e c = c.ends
  forms_free F h (suc n) s gs e c =
      let t = next_in w d s in
      let p = c.through 0 (omega arith) in
      let g : F ≡ gs ++ s ∷ free_chain d.levels w n t = e ∙ ap (λ (z : List ℕ). gs ++ z) (free_step d.levels w n s) in (
        h gs s (free_chain d.levels w n t) g (record { from = p.0; below = p.1 }),
        forms_free F h n t (gs ++ s ∷ []) (g ∙ sym (append_snoc gs s (free_chain d.levels w n t))) (chained-next d.lists d.levels d.room w n s c),
      )

  -- the last free slot has the free mark
  pub free_last : (n s : ℕ) → FreeFrom w d (suc n) s → height_in w d (ends_at (free_chain d.levels w (suc n) s)) ≡ N
  unfolding FreeFrom
  free_last zero s f = f.0.mark
  free_last (suc n) s f =
      let t = next_in w d s in
      subst (λ (z : List ℕ). height_in w d (ends_at z) ≡ N)
      (sym (free_step d.levels w (suc n) s ∙ ap (λ (z : List ℕ). s ∷ z) (free_step d.levels w n t)))
      (subst (λ (z : List ℕ). height_in w d (ends_at z) ≡ N) (free_step d.levels w n t) (free_last n t f.1))
