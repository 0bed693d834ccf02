-- What stands between two pieces of a text, and what is written at its end. No contract can say which bytes a read brings, so the text is only said to be
-- some text. Rests on shift's Reports.
use Rattle.std.specs.Prelude.{ℕ, ◌^◌, ◌≤◌, ◌<◌, ◌≡◌, List, length}
use Rattle.model.specs.Calls.{SetUpPromise}
use Rattle.shift_feed.specs.declared.Desk.{Desk}
use Rattle.shift_feed.specs.Feeds.{empty}
use Rattle.shift.specs.Reports.{report_of, text_of, Fed, joined}

-- Pieces were fed, of no more bytes than were counted.
pub record Onward (counted : ℕ) (d : Desk) (w : List ℕ) (e : Desk) (u : List ℕ) : Type 0 where
  pub pieces : List (List ℕ)
  pub few : length (joined pieces) ≤ counted
  pub feeds : Fed pieces d w e u

-- Since set-up nothing was done but to feed a text of fewer than 2^64 bytes.
pub record Begun (desk : Desk) (words : List ℕ) : Type 0 where
  pub first : List ℕ
  pub second : List ℕ
  pub counted : ℕ
  pub fits : counted < 2 ^ 64
  pub begins : SetUpPromise 2 8 400 first second 0
  pub feeds : Onward counted empty second desk words

-- These bytes are the report of a text, the whole of it and nothing else.
pub record Whole (bytes : List ℕ) : Type 0 where
  pub text : List ℕ
  pub fits : length text < 2 ^ 64
  pub is : bytes ≡ text_of (report_of text)
