-- What reads have done to the words and the desk. Rests on Texts.
use Rattle.std.specs.Prelude.{ℕ, ◌^◌, ◌≤◌, ◌<◌, ◌≡◌, List, Option, Some, None, Result, Ok, Err}
use Rattle.shift_feed.specs.declared.Desk.{Desk}
use Rattle.shift_feed.specs.Feeds.{empty}
use Rattle.report.specs.declared.Told.{Told}
use Rattle.report.specs.declared.StillOpen.{StillOpen}
use Rattle.report.specs.Texts.{Onward}

-- One read: it went on by a piece, or by nothing where a signal broke it off; or the text has ended; or the read failed.
abbrev pub Took : Result (Option ℕ) Told → Desk → List ℕ → Desk → List ℕ → Type 0
Took (Ok (Some n)) d w e u = Onward n d w e u × (1 ≤ n) × (n ≤ 65537)
Took (Ok None) d w e u = (e ≡ d) × (u ≡ w)
Took (Err t) d w e u = (e ≡ d) × (u ≡ w)

-- All reads, from an empty desk to e: the text has ended; or it has not after as many reads and bytes as the program takes, which are told; or one failed.
pub record Onwards (counted : ℕ) (e : Desk) (w u : List ℕ) : Type 0 where
  pub onward : Onward counted empty w e u
  pub fits : counted < 2 ^ 64

abbrev pub TookAll : Result (Result Desk StillOpen) Told → List ℕ → List ℕ → Type 0
TookAll (Ok (Ok e)) w u = (n : ℕ) × Onwards n e w u
TookAll (Ok (Err o)) w u = (18446744073709486078 ≤ o.spent) × ((e : Desk) × Onwards o.spent e w u)
TookAll (Err t) w u = (n : ℕ) × ((e : Desk) × Onwards n e w u)
