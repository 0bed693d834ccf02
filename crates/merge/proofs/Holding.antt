-- Words that one step leaves and the next step takes up: those of a sound model of the same sizes. Rests on model's EveryCall and Builds.
use Prim.Native.Nat.{ℕ}
use mathlib.Core.Path.{◌≡◌, refl, sym, ap, ◌∙◌}
use mathlib.Core.List.{List}
use lib.ListN.{length}
use native.Mathlib.Omega.{arith}
use Rattle.model.specs.Arena.{State, encode}
use Rattle.model.specs.Passes.{decode, Sound, Passes}
use Rattle.arena.specs.Owners.{Listed}
use Rattle.model.proofs.Columns.{length-encode}
use Rattle.model.proofs.Builds.{passes-encode}
use Rattle.model.proofs.EveryCall.{Alike, alike-sizes}
use Rattle.model.proofs.Records.{decode-encode}

-- u holds the model T, whose sizes are those of w's
pub record HoldsMoved (w u : List ℕ) (T : State) : Type 0 where
  pub model : decode u ≡ T
  pub passes : Passes u
  pub alike : Alike (decode w) T
  pub size : length u ≡ length w

pub holds : {w u : List ℕ} {T : State} → Passes w → Sound T → Alike (decode w) T → u ≡ encode T → HoldsMoved w u T
holds {w} {u} {T} p v a e = record {
  model = ap decode e ∙ decode-encode T v;
  passes = rw e (passes-encode T v (alike-sizes a p.sizes));
  alike = a;
  size = ap length e ∙ length-encode T ∙ (rw (a.lists, a.room, a.levels) refl) ∙ sym (ap length p.words ∙ length-encode (decode w));
}

pub still_listed : {w u : List ℕ} {T : State} {m a : ℕ} → HoldsMoved w u T → Listed w m a → Listed u m a
still_listed g p = record {
  passes = g.passes;
  levels = p.levels ∙ sym (ap (λ (s : State). s.levels) g.model ∙ g.alike.levels);
  list = omega (arith, p.list, g.alike.lists, ap (λ (s : State). length s.lists) g.model);
}
