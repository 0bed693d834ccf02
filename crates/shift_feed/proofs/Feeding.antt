-- Bytes in pieces are bytes in one: what the calls leave is the shift of the whole text, and no line is lost at a piece's edge. Rests on Capping and
-- shift_line's Parsing.
use Prim.Native.Nat.{ℕ, suc, ◌+◌, ◌≤◌, ◌<◌}
use mathlib.Core.Path.{◌≡◌, refl, sym, ap, ◌∙◌, subst}
use mathlib.Core.Logic.{◌≢◌}
use mathlib.Core.Bool.{Bool, true, false, cond}
use mathlib.Core.List.{List, [], ◌∷◌, ◌++◌, append-nil, append_assoc}
use lib.Dec.{eqb}
use lib.ListN.{length, take, get_or}
use lib.Seq.{take-suc, take_all}
use borrow.Author.Tests.{eq-eqb, ne_eqb}
use native.Mathlib.Omega.{arith}
use Rattle.shift_line.specs.declared.Part.{Part}
use Rattle.shift_line.specs.declared.Part.TheVariants.{Nothing, ListDigits, Space, KeyDigits, Spoilt}
use Rattle.shift_line.specs.declared.Line.{Line}
use Rattle.model.specs.Slices.{Holds, reply}
use Rattle.std.specs.Prelude.{Option, Some, None}
use Rattle.shift_line.specs.declared.Reading.{Reading}
use Rattle.shift_line.specs.Lines.{begun, lines_of, parsed}
use Rattle.shift_line.specs.Reads.{blank, stepped, read}
use Rattle.shift_line.proofs.Parsing.{line_parsed}
use Rattle.shift_line.proofs.Begun.{begun as begun-line}
use Rattle.model.proofs.Tests.{Same, same, other, same?}
use Rattle.shift_feed.specs.declared.Desk.{Desk}
use Rattle.shift_feed.specs.Shifts.{Shift, inserting, accepted, taken, taken_all}
use Rattle.shift_feed.specs.Feeds.{Midway, end_line, fed_byte, fed, ended_in, ended, midway, desk_of, Goes}
use Rattle.shift_feed.proofs.Capping.{capped-within, goes_then, byte_stable}

pub fed_both : (s : Midway) (xs ys : List ℕ) → fed s (xs ++ ys) ≡ fed (fed s xs) ys
fed_both s [] ys = refl
fed_both s (x ∷ xs) ys = fed_both (fed_byte s x) xs ys

-- one turn of the loop: byte i of the piece is fed
pub byte-fed :
    {d e r : Desk} {w v u : List ℕ} (bytes : List ℕ) (i : ℕ)
    → i < length bytes
    → Goes (λ s. fed s (take i bytes)) d w v e
    → Goes (λ s. fed_byte s (get_or bytes i 0)) e v u r
    → Goes (λ s. fed s (take (i + 1) bytes)) d w u r
byte-fed {d} {e} {r} {w} {v} {u} bytes i h p q =
    subst (λ (f : Midway → Midway). Goes f d w u r)
    (λ j s. (sym (fed_both s (take i bytes) (get_or bytes i 0 ∷ [])) ∙ ap (fed s) (sym (take-suc bytes i 0 h) ∙ ap (λ n. take n bytes) (one i))) j)
    (goes_then (byte_stable (get_or bytes i 0)) p q)
  where
    one : (n : ℕ) → suc n ≡ n + 1
    one n = omega arith

-- after the last turn the whole piece is fed
pub all-fed :
    {d r : Desk} {w u : List ℕ} (bytes : List ℕ) (i : ℕ)
    → length bytes ≤ i
    → Goes (λ s. fed s (take i bytes)) d w u r
    → Goes (λ s. fed s bytes) d w u r
all-fed {d} {r} {w} {u} bytes i g p = subst (λ (bs : List ℕ). Goes (λ s. fed s bs) d w u r) (take_all i bytes g) p

pub nothing-fed : {desk : Desk} (w : List ℕ) → desk.skipped ≤ 18446744073709551615 → Goes (λ s. s) desk w w desk
nothing-fed {desk} w h = record { goes = λ x k. (k, ap (λ n. record { line = desk.line; skipped = n }) (sym (capped-within desk.skipped h))) }

pub newline_fed : {d r : Desk} {w u : List ℕ} (b : ℕ) → b ≡ 10 → Goes end_line d w u r → Goes (λ s. fed_byte s b) d w u r
newline_fed b e p = rw (eq-eqb b 10 e) p

pub other-fed :
    {d : Desk} (b : ℕ) (w : List ℕ)
    → (b ≡ 10 → ⊥)
    → d.skipped ≤ 18446744073709551615
    → Goes (λ s. fed_byte s b) d w w (record { line = stepped d.line b; skipped = d.skipped })
other-fed {d} b w n h = rw (ne_eqb b 10 n) (record {
  goes = λ x k. (k, ap (λ m. record { line = stepped d.line b; skipped = m }) (sym (capped-within d.skipped h)));
})

-- ---- the end of the text ----
pub ended-blank : {d : Desk} (w : List ℕ) → d.line.part ≡ Nothing → d.skipped ≤ 18446744073709551615 → Goes ended d w w d
ended-blank {d} w e h = record {
  goes = λ x k.
      let z : ended (midway x d) ≡ midway x d = ap (λ p. ended_in p (midway x d)) e in
      (subst (Holds w) (ap (λ m. m.shift.held) (sym z)) k, ((nothing-fed w h).goes x k).1 ∙ ap desk_of (sym z));
}

-- the end of a text ends a line that was begun
ended-begun : (p : Part) (s : Midway) → p ≢ Nothing → ended_in p s ≡ end_line s
ended-begun Nothing s n = absurd (n refl)
ended-begun ListDigits s n = refl
ended-begun Space s n = refl
ended-begun KeyDigits s n = refl
ended-begun Spoilt s n = refl

pub ended-taken : {d r : Desk} {w u : List ℕ} → d.line.part ≢ Nothing → Goes end_line d w u r → Goes ended d w u r
ended-taken {d} {r} {w} {u} o p = record {
  goes = λ x k.
      let z : ended (midway x d) ≡ end_line (midway x d) = ended-begun d.line.part (midway x d) o in
      let (a, e) = p.goes x k in
      (subst (Holds u) (ap (λ m. m.shift.held) (sym z)) a, e ∙ ap desk_of (sym z));
}

-- ---- lines ----
abbrev NoEnd : List ℕ → Type 0
NoEnd [] = Unit {0}
NoEnd (b ∷ bs) = (eqb b 10 ≡ false) × NoEnd bs

no_end_more : (bs : List ℕ) (b : ℕ) → NoEnd bs → eqb b 10 ≡ false → NoEnd (bs ++ b ∷ [])
no_end_more [] b n e = (e, tt)
no_end_more (x ∷ xs) b n e = (n.0, no_end_more xs b n.1 e)

-- the bytes before a newline are a line
line_ended : (bs text : List ℕ) → NoEnd bs → lines_of (bs ++ 10 ∷ text) ≡ bs ∷ lines_of text
line_ended [] text n = refl
line_ended (b ∷ bs) text n = rw (n.0, line_ended bs text n.1) refl

last_line : (b : ℕ) (bs : List ℕ) → NoEnd (b ∷ bs) → lines_of (b ∷ bs) ≡ (b ∷ bs) ∷ []
last_line b [] n = rw n.0 refl
last_line b (c ∷ bs) n = rw (n.0, last_line c bs n.1) refl

read_more : (line : Line) (bs : List ℕ) (b : ℕ) → read line (bs ++ b ∷ []) ≡ stepped (read line bs) b
read_more line [] b = refl
read_more line (x ∷ xs) b = read_more (stepped line x) xs b

abbrev mid_line : Shift → List ℕ → Midway
mid_line s bs = record { shift = s; line = read blank bs }

line_taken : (s : Shift) (bs : List ℕ) → end_line (mid_line s bs) ≡ record { shift = taken s (parsed bs); line = blank }
line_taken s bs = ap (λ e. record { shift = taken s e; line = blank }) (line_parsed bs)

-- from a begun line on, the shift at the end is that of all lines
pub lines_taken : (s : Shift) (bs text : List ℕ) → NoEnd bs → (ended (fed (mid_line s bs) text)).shift ≡ taken_all s (lines_of (bs ++ text))
lines_taken s [] [] n = refl
lines_taken s (b ∷ bs) [] n =
    ap (λ m. m.shift) (ended-begun (read blank (b ∷ bs)).part (mid_line s (b ∷ bs)) (begun-line blank b bs) ∙ line_taken s (b ∷ bs))
    ∙ ap (taken_all s) (sym (ap lines_of (append-nil (b ∷ bs)) ∙ last_line b bs n))
lines_taken s bs (b ∷ text) n = by (λ s2. lines_taken s2 [] text tt) (λ m. lines_taken s (bs ++ b ∷ []) text m) (same? b 10)
  where
    by :
        ((s2 : Shift) → (ended (fed (mid_line s2 []) text)).shift ≡ taken_all s2 (lines_of text))
        → (NoEnd (bs ++ b ∷ []) → (ended (fed (mid_line s (bs ++ b ∷ [])) text)).shift ≡ taken_all s (lines_of ((bs ++ b ∷ []) ++ text)))
        → Same b 10
        → (ended (fed (fed_byte (mid_line s bs) b) text)).shift ≡ taken_all s (lines_of (bs ++ b ∷ text))
    by next more (same e x) =
        ap (λ m. (ended (fed m text)).shift) (rw e (line_taken s bs))
        ∙ next (taken s (parsed bs))
        ∙ ap (taken_all s) (sym (ap (λ c. lines_of (bs ++ c ∷ text)) x ∙ line_ended bs text n))
    by next more (other e x) =
        ap (λ m. (ended (fed m text)).shift) (rw e (ap (λ (l : Line). record { shift = s; line = l }) (sym (read_more blank bs b))))
        ∙ more (no_end_more bs b n e)
        ∙ ap (λ xs. taken_all s (lines_of xs)) (append_assoc bs (b ∷ []) text)

-- ---- how many lines can be skipped ----
lines_within : (text : List ℕ) → length (lines_of text) ≤ length text
lines_within [] = omega arith
lines_within (b ∷ text) = by (lines_within text) (eqb b 10)
  where
    begun-within : (lines : List (List ℕ)) → length lines ≤ length text → length (begun b lines) ≤ suc (length text)
    begun-within [] h = omega arith
    begun-within (l ∷ ls) h = omega (arith, h)

    by : length (lines_of text) ≤ length text → (n : Bool) → length (cond n ([] ∷ lines_of text) (begun b (lines_of text))) ≤ suc (length text)
    by h true = omega (arith, h)
    by h false = begun-within (lines_of text) h

taken-within : (s : Shift) (line : List ℕ) → (taken s (parsed line)).skipped ≤ suc s.skipped
taken-within s line = by (parsed line)
  where
    either : (b : Bool) → cond b s.skipped (suc s.skipped) ≤ suc s.skipped
    either true = omega arith
    either false = omega arith

    by : (e : Option Reading) → (taken s e).skipped ≤ suc s.skipped
    by (Some r) = either (accepted (reply s.held (inserting r.list r.key)))
    by None = omega arith

all-within : (s : Shift) (lines : List (List ℕ)) → (taken_all s lines).skipped ≤ s.skipped + length lines
all-within s [] = omega arith
all-within s (line ∷ lines) = let h = all-within (taken s (parsed line)) lines in let g = taken-within s line in omega (arith, h, g)

-- "The count of skipped lines is right for any text": no more than its bytes
pub skipped_within : (s : Shift) (text : List ℕ) → (taken_all s (lines_of text)).skipped ≤ s.skipped + length text
skipped_within s text = let h = all-within s (lines_of text) in let g = lines_within text in omega (arith, h, g)
