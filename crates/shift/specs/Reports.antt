-- Request K1: the report of a text, as numbers and as bytes; and that the calls give it. Rests on shift_feed's Shifts and Feeds, figures' Figured and
-- figures_text's Texts.
use Rattle.std.specs.Prelude.{ℕ, suc, ◌^◌, ◌≤◌, ◌<◌, ◌≡◌, List, [], ◌∷◌, ◌++◌, map, length, drop, get_or, Result, Ok}
use Rattle.model.specs.Nodes.{Node, key_at}
use Rattle.model.specs.Passes.{decode, nodes, Passes}
use Rattle.model.specs.Calls.{SetUpPromise}
use Rattle.model.specs.Slices.{Held, broken, whole}
use Rattle.answers.specs.declared.Refusal.{Refusal}
use Rattle.figures.specs.declared.Figures.{Figures}
use Rattle.figures.specs.Figured.{figures_of, FiguresPromise}
use Rattle.figures_text.specs.Texts.{line_of, last_of}
use Rattle.shift_feed.specs.declared.Desk.{Desk}
use Rattle.shift_feed.specs.Shifts.{shift_of}
use Rattle.shift_feed.specs.Feeds.{Midway, empty, fed, ended, Goes}

-- ---- the report ----
-- The figures of each list, by number, and how many lines were skipped.
pub record Report : Type 0 where
  pub figures : List Figures
  pub skipped : ℕ

abbrev pub lists_in : Held → List (List Node)
lists_in (broken w) = []
lists_in (whole S) = S.lists

abbrev pub report_on : List (List Node) → ℕ → Report
report_on lists skipped = record { figures = map figures_of lists; skipped = skipped }

abbrev pub report_of : List ℕ → Report
report_of text = let s = shift_of text in report_on (lists_in s.held) s.skipped

-- A line for each list, by number, and the last line.
abbrev pub lines_from : ℕ → List Figures → List ℕ
lines_from l [] = []
lines_from l (f ∷ fs) = line_of l f ++ lines_from (suc l) fs

abbrev pub text_of : Report → List ℕ
text_of r = lines_from 0 r.figures ++ last_of r.skipped

-- ---- the answer ----
-- 1,261 bytes hold any report: 77 for each of 16 lists, 29 for the last line. A shorter slice, or an arena that doesn't pass, gets no byte and 0; else
-- the front of the slice is the report, and the rest stays.
abbrev pub room : ℕ
room = 1261

pub record AnswerPromise (w : List ℕ) (skipped : ℕ) (before after : List ℕ) (n : ℕ) : Type 0 where
  pub short : length before < room → (n ≡ 0) × (after ≡ before)
  pub broken : ¬ Passes w → (n ≡ 0) × (after ≡ before)
  pub whole : room ≤ length before → Passes w
      → let text = text_of (report_on (decode w).lists skipped) in (n ≡ length text) × (after ≡ text ++ drop (length text) before)

-- ---- the calls together ----
-- A text is fed in any pieces, one call for each.
pub data Fed : List (List ℕ) → Desk → List ℕ → Desk → List ℕ → Type 0 where
  none : {d : Desk} {w : List ℕ} → Fed [] d w d w
  piece : {p : List ℕ} {ps : List (List ℕ)} {d e f : Desk} {w v u : List ℕ} → Goes (λ s. fed s p) d w v e → Fed ps e v f u → Fed (p ∷ ps) d w f u

abbrev pub joined : List (List ℕ) → List ℕ
joined [] = []
joined (p ∷ ps) = p ++ joined ps

-- Set-up is accepted, all pieces are fed to an empty desk, and the text ends: these are the words and the desk then.
pub record Run (pieces : List (List ℕ)) (words : List ℕ) (desk : Desk) : Type 0 where
  pub first : List ℕ
  pub second : List ℕ
  pub third : List ℕ
  pub last : Desk
  pub begins : SetUpPromise 2 8 400 first second 0
  pub feeds : Fed pieces empty second last third
  pub finishes : Goes ended last third words desk

-- Fed in any pieces and finished, a text of fewer than 2^64 bytes gives its report: as numbers, and as bytes.
pub record Gives (r : Report) (words : List ℕ) (desk : Desk) : Type 0 where
  pub passes : Passes words
  pub lists : length r.figures ≡ 2
  pub skipped : desk.skipped ≡ r.skipped
  pub numbers : {a : ℕ} {x : Result Figures Refusal} → a < 2 → FiguresPromise a words x → x ≡ Ok (get_or r.figures a (figures_of []))
  pub text : {before after : List ℕ} {n : ℕ} → room ≤ length before → AnswerPromise words desk.skipped before after n
      → (n ≡ length (text_of r)) × (after ≡ text_of r ++ drop (length (text_of r)) before)

abbrev pub Reporting : Type 0
Reporting =
    (pieces : List (List ℕ)) (words : List ℕ) (desk : Desk)
    → length (joined pieces) < 2 ^ 64
    → Run pieces words desk
    → Gives (report_of (joined pieces)) words desk

-- ---- request K1 in one record ----
-- "The input lines `0 10`, `0 20`, `0 20`, `0 30`, `2 5` give the lines `0 4 10 30 10 20 20`, `1 0`, `skipped 1`." Request K2: "the report prints the
-- doubled figure for q = 2": the first line is now `0 4 10 30 10 40 20`.
abbrev pub five_lines : List ℕ
five_lines =
    48 ∷ 32 ∷ 49 ∷ 48 ∷ 10 ∷
    48 ∷ 32 ∷ 50 ∷ 48 ∷ 10 ∷
    48 ∷ 32 ∷ 50 ∷ 48 ∷ 10 ∷
    48 ∷ 32 ∷ 51 ∷ 48 ∷ 10 ∷
    50 ∷ 32 ∷ 53 ∷ []

abbrev pub three_lines : List ℕ
three_lines =
    48 ∷ 32 ∷ 52 ∷ 32 ∷ 49 ∷ 48 ∷ 32 ∷ 51 ∷ 48 ∷ 32 ∷ 49 ∷ 48 ∷ 32 ∷ 52 ∷ 48 ∷ 32 ∷ 50 ∷ 48 ∷ 10 ∷
    49 ∷ 32 ∷ 48 ∷ 10 ∷
    115 ∷ 107 ∷ 105 ∷ 112 ∷ 112 ∷ 101 ∷ 100 ∷ 32 ∷ 49 ∷ 10 ∷ []

pub record Reports : Type 0 where
  pub example : text_of (report_of five_lines) ≡ three_lines
  pub reporting : Reporting
  pub smallest : {w : List ℕ} → Passes w → (a i : ℕ) → i < length (nodes w a) → (figures_of (nodes w a)).smallest ≤ key_at (nodes w a) i
  pub largest : {w : List ℕ} → Passes w → (a i : ℕ) → i < length (nodes w a) → key_at (nodes w a) i ≤ (figures_of (nodes w a)).largest
  pub one_desk : {f : Midway → Midway} {d r s : Desk} {w u v : List ℕ} → Goes f d w u r → Goes f d w v s → (r ≡ s) × (u ≡ v)
  pub one_figures : {a : ℕ} {w : List ℕ} {r s : Result Figures Refusal} → FiguresPromise a w r → FiguresPromise a w s → r ≡ s
  pub one_text : {w before u v : List ℕ} {skipped m n : ℕ} → AnswerPromise w skipped before u m → AnswerPromise w skipped before v n → (m ≡ n) × (u ≡ v)
