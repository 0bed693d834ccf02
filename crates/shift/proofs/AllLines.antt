-- The lines of the lists, one after the other: what the loop over the lists has put. Rests on specs/Reports and figures_text's Putting.
use Prim.Native.Nat.{ℕ, suc, ◌+◌, ◌*◌, ◌≤◌, ◌<◌}
use mathlib.Core.Path.{◌≡◌, sym, ap, ◌∙◌, subst}
use mathlib.Core.List.{List, [], ◌∷◌, ◌++◌, map, append-nil, append_assoc}
use lib.ListN.{length, take, get_or, length-map, get_or-map}
use lib.Seq.{take-suc, take_all, length-take-le}
use native.Mathlib.Numerals.{add-one}
use native.Mathlib.Omega.{arith}
use Rattle.model.specs.Passes.{decode, nodes, Passes}
use Rattle.figures.specs.declared.Figures.{Figures}
use Rattle.figures.specs.Figured.{figures_of}
use Rattle.figures_text.specs.Texts.{line_of, Put}
use Rattle.figures_text.proofs.Putting.{nothing, both}
use Rattle.shift.specs.Reports.{lines_from}

abbrev all_figures : List ℕ → List Figures
all_figures w = map figures_of (decode w).lists

-- the lines of the first i lists are put, in 77 bytes each
pub record Lined (w before after : List ℕ) (at i : ℕ) : Type 0 where
  pub put : Put 0 (lines_from 0 (take i (all_figures w))) before after at
  pub low : at ≤ 77 * i

lines_more : (l : ℕ) (fs : List Figures) (f : Figures) → lines_from l (fs ++ f ∷ []) ≡ lines_from l fs ++ line_of (l + length fs) f
lines_more l [] f = append-nil (line_of l f) ∙ ap (λ n. line_of n f) (omega arith)
lines_more l (g ∷ fs) f =
    let e : suc l + length fs ≡ l + suc (length fs) = omega arith in
    ap (λ (x : List ℕ). line_of l g ++ x) (lines_more (suc l) fs f ∙ ap (λ n. lines_from (suc l) fs ++ line_of n f) e)
    ∙ sym (append_assoc (line_of l g) (lines_from (suc l) fs) (line_of (l + suc (length fs)) f))

pub none-lined : (w out : List ℕ) → Lined w out out 0 0
none-lined w out = record { put = nothing 0 out; low = omega arith }

pub one-lined :
    {w before out after : List ℕ} {at i end : ℕ}
    → i < length (decode w).lists
    → Lined w before out at i
    → Put at (line_of i (figures_of (nodes w i))) out after end
    → end ≤ at + 77
    → Lined w before after end (i + 1)
one-lined {w} {before} {out} {after} {at} {i} {end} inside done put room = record {
  put = subst (λ (x : List ℕ). Put 0 x before after end) (sym more) (both done.put put);
  low = omega (arith, done.low);
}
  where
    more : lines_from 0 (take (i + 1) (all_figures w)) ≡ lines_from 0 (take i (all_figures w)) ++ line_of i (figures_of (nodes w i))
    more =
        let within : i < length (all_figures w) = rw (length-map (decode w).lists figures_of) inside in
        let here : 0 + length (take i (all_figures w)) ≡ i = omega (arith, length-take-le i (all_figures w) (omega arith)) in
        let next : take (i + 1) (all_figures w) ≡ take i (all_figures w) ++ get_or (all_figures w) i (figures_of []) ∷ [] =
        rw add-one (take-suc (all_figures w) i (figures_of []) within) in
        ap (lines_from 0) next
        ∙ lines_more 0 (take i (all_figures w)) (get_or (all_figures w) i (figures_of []))
        ∙ ap (λ n. lines_from 0 (take i (all_figures w)) ++ line_of n (get_or (all_figures w) i (figures_of []))) here
        ∙ ap (λ f. lines_from 0 (take i (all_figures w)) ++ line_of i f) (get_or-map figures_of (decode w).lists i [])

pub all-lined :
    {w before after : List ℕ} {at i : ℕ}
    → Passes w
    → i ≡ length (decode w).lists
    → Lined w before after at i
    → Put 0 (lines_from 0 (all_figures w)) before after at × (at ≤ 1232)
all-lined {w} {before} {after} {at} {i} p e done = (
  subst (λ (fs : List Figures). Put 0 (lines_from 0 fs) before after at) (take_all i (all_figures w) (omega (arith, length-map (decode w).lists figures_of))) done.put,
  omega (arith, done.low, p.sizes.lists_most),
)
