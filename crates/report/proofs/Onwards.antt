-- Pieces are fed one after the other, and at the end of the text its whole report is told. Rests on specs/Texts and shift's Reports.
use Prim.Native.Nat.{ℕ, ◌+◌, ◌^◌, ◌≤◌, ◌<◌}
use mathlib.Core.Path.{◌≡◌, refl, sym, ap, ◌∙◌, subst}
use mathlib.Core.List.{List, [], ◌∷◌, ◌++◌, append_assoc, append-nil}
use lib.ListN.{length, take, length-append}
use lib.Seq.{take-append-le, take_all}
use native.Mathlib.Omega.{arith}
use Rattle.io.specs.Counts.{IsPrefixLen}
use Rattle.model.specs.Passes.{Ranges}
use Rattle.model.specs.Calls.{SetUpPromise}
use Rattle.shift_feed.specs.declared.Desk.{Desk}
use Rattle.shift_feed.specs.Feeds.{empty, fed, ended, Goes}
use Rattle.shift.specs.Reports.{report_of, text_of, AnswerPromise, Fed, none, piece, joined, Run}
use Rattle.shift.proofs.Reporting.{reporting}
use Rattle.report.specs.Texts.{Onward, Begun, Whole}

pub nothing_read : {d : Desk} {w : List ℕ} (n : ℕ) → Onward n d w d w
nothing_read n = record { pieces = []; few = omega arith; feeds = none }

pub piece-read :
    {d e : Desk} {w u : List ℕ} {n : ℕ} (buffer : List ℕ)
    → IsPrefixLen n buffer
    → Goes (λ s. fed s (take n buffer)) d w u e
    → Onward (n + 1) d w e u
piece-read {n = n} buffer h g = record { pieces = take n buffer ∷ []; few = rw append-nil (omega (arith, h.1)); feeds = piece g none }

joined_both : (ps qs : List (List ℕ)) → joined (ps ++ qs) ≡ joined ps ++ joined qs
joined_both [] qs = refl
joined_both (p ∷ ps) qs = ap (λ (x : List ℕ). p ++ x) (joined_both ps qs) ∙ sym (append_assoc p (joined ps) (joined qs))

fed_both : {ps qs : List (List ℕ)} {d e f : Desk} {w v u : List ℕ} → Fed ps d w e v → Fed qs e v f u → Fed (ps ++ qs) d w f u
fed_both none y = y
fed_both (piece g x) y = piece g (fed_both x y)

pub then_read : {d e f : Desk} {w v u : List ℕ} {m n : ℕ} → Onward m d w e v → Onward n e v f u → Onward (m + n) d w f u
then_read x y = record {
  pieces = x.pieces ++ y.pieces;
  few = rw (joined_both x.pieces y.pieces, length-append) (omega arith);
  feeds = fed_both x.feeds y.feeds;
}

-- set-up of 8048 words is accepted
pub text-begun :
    {desk : Desk} {first second words : List ℕ} {number counted : ℕ}
    → length first ≡ 8048
    → SetUpPromise 2 8 400 first second number
    → counted < 2 ^ 64
    → Onward counted empty second desk words
    → Begun desk words
text-begun {first = first} {second} {counted = counted} h p fits on = record {
  first = first;
  second = second;
  counted = counted;
  fits = fits;
  begins = subst (SetUpPromise 2 8 400 first second) (p.right (record { ranges = ranges; size = h })).0 p;
  feeds = on;
}
  where
    ranges : Ranges 2 8 400
    ranges = record {
      lists_least = omega arith;
      lists_most = omega arith;
      levels_least = omega arith;
      levels_most = omega arith;
      room_least = omega arith;
      room_most = omega arith;
    }

-- a text and what stands behind it
front-told : (text rest : List ℕ) {out : List ℕ} {n : ℕ} → n ≡ length text → out ≡ text ++ rest → IsPrefixLen n out × (take n out ≡ text)
front-told text rest {out} {n} h e =
    let front : take n out ≡ text = rw e (take-append-le n text rest (omega arith) ∙ take_all n text (omega arith)) in
    ((omega (arith, simp length-append at (ap length e)), h ∙ ap length (sym front)), front)

pub text-told :
    {desk last : Desk} {words after before out : List ℕ} {n : ℕ}
    → Begun desk words
    → 1261 ≤ length before
    → Goes ended desk words after last
    → AnswerPromise after last.skipped before out n
    → IsPrefixLen n out × Whole (take n out)
text-told {desk} {last} {words} {after} {before} {out} {n} b long g a =
    let on = b.feeds in
    let r : Run on.pieces after last = record {
      first = b.first;
      second = b.second;
      third = words;
      last = desk;
      begins = b.begins;
      feeds = on.feeds;
      finishes = g;
    } in
    let fits : length (joined on.pieces) < 2 ^ 64 = omega (arith, on.few, b.fits) in
    let (x, y) = (reporting on.pieces after last fits r).text long a in
    let (c, t) = front-told (text_of (report_of (joined on.pieces))) _ x y in
    (c, record { text = joined on.pieces; fits = fits; is = t })
