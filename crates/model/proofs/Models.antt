-- Words and models determine each other. Rests on Records (words read back) and Builds (a sound model's words pass).
use Prim.Native.Nat.{ℕ}
use mathlib.Core.Path.{◌≡◌, sym, ap, ◌∙◌, subst}
use mathlib.Core.List.{List}
use Rattle.model.specs.Arena.{State, encode}
use Rattle.model.specs.Passes.{decode, Sound, Sizes, Passes}
use Rattle.model.proofs.Builds.{passes-encode}
use Rattle.model.proofs.Records.{decode-encode}

-- two arenas that pass and hold the same model have the same words
pub same_words : {w v : List ℕ} → Passes w → Passes v → decode w ≡ decode v → w ≡ v
same_words p q e = p.words ∙ ap encode e ∙ sym q.words

-- the words of a sound model are those of no other
pub same_model : (S T : State) → Sound S → Sound T → encode S ≡ encode T → S ≡ T
same_model S T v u e = sym (decode-encode S v) ∙ ap decode e ∙ decode-encode T u

-- an arena passes exactly when it is the words of a sound model of the sizes allowed, which is then the one that it holds
pub model_of : {w : List ℕ} (S : State) → Sound S → w ≡ encode S → decode w ≡ S
model_of S v e = ap decode e ∙ decode-encode S v

pub passes_model : {w : List ℕ} (S : State) → Sound S → Sizes S → w ≡ encode S → Passes w
passes_model S v z e = subst Passes (sym e) (passes-encode S v z)
