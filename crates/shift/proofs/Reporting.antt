-- Feeding a text in any pieces and then finishing gives the report of the whole text. Rests on specs/Reports, shift_feed's Feeding and model's Slices.
use Prim.Native.Nat.{ℕ}
use mathlib.Core.Path.{◌≡◌, refl, sym, ap, ◌∙◌, subst}
use mathlib.Core.List.{List, [], ◌∷◌, ◌++◌, map}
use lib.ListN.{length, drop, get_or, length-map, get_or-map}
use borrow.Author.Tests.{lt-ltb}
use native.Mathlib.Omega.{arith}
use Rattle.model.specs.Arena.{State, set_up}
use Rattle.model.specs.Passes.{decode}
use Rattle.model.specs.Nodes.{Node}
use Rattle.model.specs.Calls.{insert_key, result_of, SetUpPromise}
use Rattle.model.specs.Slices.{Held, whole, Holds, held}
use Rattle.model.proofs.EveryCall.{alike-after, set_up_sound, set_up_sizes}
use Rattle.model.proofs.Slices.{fits, fails, decided}
use Rattle.model.proofs.Models.{passes_model, model_of}
use Rattle.std.specs.Prelude.{Option, Some, None, Ok}
use Rattle.figures.specs.Figured.{figures_of}
use Rattle.shift_line.specs.declared.Reading.{Reading}
use Rattle.shift_line.specs.Reads.{blank}
use Rattle.shift_line.specs.Lines.{lines_of, parsed}
use Rattle.shift_feed.specs.declared.Desk.{Desk}
use Rattle.shift_feed.specs.Shifts.{Shift, inserting, taken, taken_all, fresh, shift_of}
use Rattle.shift_feed.specs.Feeds.{Midway, fed, capped, desk_of}
use Rattle.shift_feed.proofs.Capping.{capped-within, goes_on, fed-stable, ended-stable}
use Rattle.shift_feed.proofs.Feeding.{fed_both, lines_taken, skipped_within}
use Rattle.shift.specs.Reports.{lists_in, report_on, report_of, text_of, Fed, none, piece, joined, Run, Reporting}

-- ---- the pieces ----
-- all pieces go on as the whole text does
all-fed :
    {ps : List (List ℕ)} {d e : Desk} {w u : List ℕ} (s : Midway)
    → Holds w s.shift.held
    → d ≡ desk_of s
    → Fed ps d w e u
    → Holds u (fed s (joined ps)).shift.held × (e ≡ desk_of (fed s (joined ps)))
all-fed s k x none = (k, x)
all-fed {e = e} {u = u} s k x (piece {p = p} {ps = qs} g rest) =
    let (a, y) = goes_on (fed-stable p) g s k x in
    let (b, z) = all-fed (fed s p) a y rest in
    let q = sym (fed_both s p (joined qs)) in
    (subst (λ m. Holds u m.shift.held) q b, z ∙ ap desk_of q)

-- ---- the arena stays one of two lists ----
record Whole (lists : ℕ) (h : Held) : Type 0 where
  state : State
  is : h ≡ whole state
  number : length state.lists ≡ lists

stays : {L : ℕ} (s : Shift) (e : Option Reading) → Whole L s.held → Whole L (taken s e).held
stays s None p = p
stays s (Some r) p = record {
  state = result_of p.state (insert_key r.list r.key 0);
  is = ap (λ h. held h (inserting r.list r.key)) p.is;
  number = (alike-after p.state (insert_key r.list r.key 0)).lists ∙ p.number;
}

all_stay : {L : ℕ} (s : Shift) (lines : List (List ℕ)) → Whole L s.held → Whole L (taken_all s lines).held
all_stay s [] p = p
all_stay s (line ∷ lines) p = all_stay (taken s (parsed line)) lines (stays s (parsed line) p)

two_lists : (text : List ℕ) → Whole 2 (shift_of text).held
two_lists text = all_stay fresh (lines_of text) (record { state = set_up 2 8 400; is = refl; number = refl })

-- ---- the run ----
set_up_held : {w u : List ℕ} → SetUpPromise 2 8 400 w u 0 → Holds u fresh.held
set_up_held {w} p = elim (decided 2 8 400 (length w)) [
  | fits e r ↦ ((p.right r).1, set_up_sound 2 8 400, set_up_sizes r.ranges)
  | fails e n ↦ absurd (omega (arith, (p.wrong n).0))
]

abbrev begun : Midway
begun = record { shift = fresh; line = blank }

run_leaves : {pieces : List (List ℕ)} {words : List ℕ} {desk : Desk} → Run pieces words desk
    → Holds words (shift_of (joined pieces)).held × (desk.skipped ≡ capped (shift_of (joined pieces)).skipped)
run_leaves {pieces} {words} {desk} r =
    let (a, x) = all-fed begun (set_up_held r.begins) refl r.feeds in
    let (b, y) = goes_on ended-stable r.finishes (fed begun (joined pieces)) a x in
    let e = lines_taken fresh [] (joined pieces) tt in
    (subst (λ (s : Shift). Holds words s.held) e b, ap (λ d. d.skipped) y ∙ ap (λ (s : Shift). capped s.skipped) e)

pub reporting : Reporting
reporting pieces words desk within r =
    let text = joined pieces in
    let (k, x) = run_leaves r in
    let W = two_lists text in
    let h : Holds words (whole W.state) = subst (Holds words) W.is k in
    let model : decode words ≡ W.state = model_of W.state h.1 h.0 in
    let lists : lists_in (shift_of text).held ≡ (decode words).lists = ap lists_in W.is ∙ ap (λ (S : State). S.lists) (sym model) in
    let two : length (decode words).lists ≡ 2 = ap (λ (S : State). length S.lists) model ∙ W.number in
    let passes = passes_model W.state h.1 h.2 h.0 in
    let count : desk.skipped ≡ (shift_of text).skipped = x ∙ capped-within (shift_of text).skipped (omega (arith, skipped_within fresh text)) in
    let same : report_on (decode words).lists desk.skipped ≡ report_of text = λ i. report_on (sym lists i) (count i) in
    record {
      passes = passes;
      lists = ap (λ (xs : List (List Node)). length (map figures_of xs)) lists ∙ length-map (decode words).lists figures_of ∙ two;
      skipped = count;
      numbers = λ {a} inside p.
          p.whole passes
          ∙ (rw (lt-ltb a (length (decode words).lists) (omega (arith, two))) (ap Ok (sym (get_or-map figures_of (decode words).lists a []))))
          ∙ ap (λ (xs : List (List Node)). Ok (get_or (map figures_of xs) a (figures_of []))) (sym lists);
      text = λ {before} {after} {n} long p.
          let t = p.whole long passes in
          (t.0 ∙ ap (λ r. length (text_of r)) same, t.1 ∙ ap (λ r. text_of r ++ drop (length (text_of r)) before) same);
    }
