-- Each C call's promise allows one returned number, one content of each out-parameter and one of the words. Rests on specs/Returned and model's Unique.
use Prim.Native.Nat.{ℕ}
use mathlib.Core.Path.{◌≡◌, sym, ap, ◌∙◌}
use mathlib.Core.List.{List}
use native.Mathlib.Decide.{ℕ_discrete}
use Rattle.model.specs.Calls.{Call, Answer, Promise}
use Rattle.model.specs.Passes.{Passes}
use Rattle.model.proofs.Unique.{either_way, call_unique}
use Rattle.link.specs.Distances.{Told}
use Rattle.ska_c.specs.Returned.{alone, with_key, with_place, with_distance, Verdict}

module _ {c : Call} {w u v : List ℕ} where
  pub one-alone : {r s : ℕ} → Promise c w u (alone r) → Promise c w v (alone s) → (r ≡ s) × (u ≡ v)
  one-alone p q = let e = call_unique p q in (ap (λ (a : Answer). a.number) e.0, e.1)

  pub one_with_key : {r s j k : ℕ} → Promise c w u (with_key r j) → Promise c w v (with_key s k) → (r ≡ s) × (j ≡ k) × (u ≡ v)
  one_with_key p q = let e = call_unique p q in (ap (λ (a : Answer). a.number) e.0, ap (λ (a : Answer). a.key) e.0, e.1)

  pub one_with_place : {r s f g i j m n : ℕ} → Promise c w u (with_place r f i m) → Promise c w v (with_place s g j n) → (r ≡ s) × (f ≡ g) × (i ≡ j) × (m ≡ n) × (u ≡ v)
  one_with_place p q =
      let e = call_unique p q in (
        ap (λ (a : Answer). a.number) e.0,
        ap (λ (a : Answer). a.found) e.0,
        ap (λ (a : Answer). a.place) e.0,
        ap (λ (a : Answer). a.tally) e.0,
        e.1,
      )

pub one-verdict : {w : List ℕ} {r s : ℕ} → Verdict w r → Verdict w s → r ≡ s
one-verdict {w} p q = either_way ℕ_discrete (Passes w) (λ h. p.yes h ∙ sym (q.yes h)) (λ h. p.no h ∙ sym (q.no h))

pub one_with_distance : {t : Told} {r s d e : ℕ} → with_distance r d ≡ t → with_distance s e ≡ t → (r ≡ s) × (d ≡ e)
one_with_distance p q = let h = p ∙ sym q in (ap (λ (x : Told). x.number) h, ap (λ (x : Told). x.distance) h)
