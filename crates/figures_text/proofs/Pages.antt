-- Bytes put on a page one behind the other are put as one, and a page that is given up leaves its slice. Rests on Pages and Putting.
use Prim.Native.Nat.{ℕ, ◌+◌, ◌<◌}
use mathlib.Core.List.{List, [], ◌∷◌, ◌++◌}
use mathlib.Core.Path.{◌≡◌, refl, sym, ◌∙◌, subst}
use lib.ListN.{length, take, get_or}
use Rattle.figures_text.specs.declared.Page.{Page}
use Rattle.figures_text.specs.Texts.{spaced, Put}
use Rattle.figures_text.specs.Pages.{Puts}
use Rattle.figures_text.proofs.Putting.{nothing, both, spaced-append, one_more}

pub still : (p : Page) → Puts [] p p
still p = record { put = nothing p.at p.out.now; long = refl; same = refl }

pub puts_both : {p q r : Page} {xs ys : List ℕ} → Puts xs p q → Puts ys q r → Puts (xs ++ ys) p r
puts_both s t = record { put = both s.put t.put; long = t.long ∙ s.long; same = t.same ∙ s.same }

pub puts_then : {p q r : Page} (xs ys : List ℕ) → Puts (spaced xs) p q → Puts (spaced ys) q r → Puts (spaced (xs ++ ys)) p r
puts_then {p} {r = r} xs ys s t = subst (λ (zs : List ℕ). Puts zs p r) (sym (spaced-append xs ys)) (puts_both s t)

-- One number more.
pub puts_more : {p q r : Page} (ns : List ℕ) (i : ℕ) → i < length ns
    → Puts (spaced (take i ns)) p q → Puts (spaced (get_or ns i 0 ∷ [])) q r → Puts (spaced (take (i + 1) ns)) p r
puts_more {p} {r = r} ns i inside s t = subst (λ (zs : List ℕ). Puts zs p r) (sym (one_more ns i inside)) (puts_both s t)

-- What the slice holds when it is given back.
pub given_back : {at end : ℕ} {xs a b c : List ℕ} → Put at xs a b end → c ≡ b → Put at xs a c end
given_back p e = rw e p
