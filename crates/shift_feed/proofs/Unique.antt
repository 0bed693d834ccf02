-- The promise of a call that reads a shift's text allows one desk and one content of the words. Rests on specs/Feeds and model's Unique and Slices.
use Prim.Native.Nat.{ℕ}
use mathlib.Core.Path.{◌≡◌, refl, sym, ap, ◌∙◌}
use mathlib.Core.List.{List, [], ◌∷◌, List-discrete}
use mathlib.Core.Bool.{cond}
use lib.Dec.{eqb}
use lib.ListN.{get_or}
use native.Mathlib.Decide.{ℕ_discrete}
use Rattle.model.specs.Passes.{decode, Passes}
use Rattle.model.specs.Slices.{Held, broken, whole, Holds}
use Rattle.model.proofs.Slices.{broken_held, whole-held, words_held}
use Rattle.model.proofs.Unique.{either_way}
use Rattle.shift_line.specs.declared.Part.{Part}
use Rattle.shift_line.specs.declared.Part.TheVariants.{Nothing, ListDigits, Space, KeyDigits, Spoilt}
use Rattle.shift_feed.specs.declared.Desk.{Desk}
use Rattle.shift_feed.specs.Feeds.{Midway, midway, Goes}

-- ---- a desk as numbers, and back ----
abbrev part_number : Part → ℕ
part_number Nothing = 0
part_number ListDigits = 1
part_number Space = 2
part_number KeyDigits = 3
part_number Spoilt = 4

abbrev part_of : ℕ → Part
part_of n = cond (eqb n 0) Nothing (cond (eqb n 1) ListDigits (cond (eqb n 2) Space (cond (eqb n 3) KeyDigits Spoilt)))

part_back : (p : Part) → part_of (part_number p) ≡ p
part_back Nothing = refl
part_back ListDigits = refl
part_back Space = refl
part_back KeyDigits = refl
part_back Spoilt = refl

abbrev numbers : Desk → List ℕ
numbers d = part_number d.line.part ∷ d.line.list ∷ d.line.number ∷ d.skipped ∷ []

abbrev desk_from : List ℕ → Desk
desk_from ns = record {
  line = record { part = part_of (get_or ns 0 0); list = get_or ns 1 0; number = get_or ns 2 0 };
  skipped = get_or ns 3 0;
}

same_desk : {r s : Desk} → numbers r ≡ numbers s → r ≡ s
same_desk {r} {s} e = sym (back r) ∙ ap desk_from e ∙ back s
  where
    back : (d : Desk) → desk_from (numbers d) ≡ d
    back d = ap (λ p. record { line = record { part = p; list = d.line.list; number = d.line.number }; skipped = d.skipped }) (part_back d.line.part)

-- ---- one answer ----
module _ {f : Midway → Midway} {d r s : Desk} {w u v : List ℕ} (p : Goes f d w u r) (q : Goes f d w v s) where
  one_desk : (h : Held) → Holds w h → r ≡ s
  one_desk h k = (p.goes h k).1 ∙ sym (q.goes h k).1

  one_content : (h : Held) → Holds w h → u ≡ v
  one_content h k = let e = (f (midway h d)).shift.held in words_held e (p.goes h k).0 ∙ sym (words_held e (q.goes h k).0)

  pub goes_unique : (r ≡ s) × (u ≡ v)
  goes_unique = (
    same_desk
        (either_way (List-discrete ℕ_discrete) (Passes w) (λ h. ap numbers (one_desk (whole (decode w)) (whole-held h)))
        (λ h. ap numbers (one_desk (broken w) (broken_held h)))),
    either_way (List-discrete ℕ_discrete) (Passes w) (λ h. one_content (whole (decode w)) (whole-held h)) (λ h. one_content (broken w) (broken_held h)),
  )
