-- One byte more and the end of a line, by the state of the line and the test of the code. Rests on Reads and Lines.
use Prim.Native.Nat.{ℕ, ◌+◌, ◌*◌, ◌%◌, ◌≤◌, ◌<◌}
use mathlib.Core.Bool.{Bool, true, false, cond}
use mathlib.Core.List.{List}
use mathlib.Core.Path.{◌≡◌, refl}
use lib.Dec.{ltb}
use lib.ListN.{length, set, length-set}
use borrow.Author.Tests.{eq-eqb, ne_eqb, ltb-true}
use native.Mathlib.Omega.{arith}
use Rattle.std.specs.Prelude.{Option, Some, None}
use Rattle.digits.specs.Digits.{longer}
use Rattle.script_line.specs.declared.Reading.{Reading}
use Rattle.script_line.specs.declared.Reading.TheVariants.{Nothing, Name, Gap, Digits, Comment, Spoilt}
use Rattle.script_line.specs.declared.Line.{Line}
use Rattle.script_line.specs.Lines.{Within}
use Rattle.script_line.specs.Reads.{is_letter, turned, lettered, number_read, digited, numbered, stepped, kept, finished, Stepped, Finished}

count_either : (n : ℕ) (t u : Bool) (x y : Line) → x.count ≤ n → y.count ≤ n → (cond t (cond u x y) y).count ≤ n
count_either n true true x y p q = p
count_either n true false x y p q = q
count_either n false u x y p q = q

pub lettered_count : (line : Line) (b n : ℕ) → line.count ≤ n → (lettered line b).count ≤ n
unfolding lettered
lettered_count line b n h =
    count_either
    n
    (is_letter b)
    (ltb line.name 36028797018963968)
    (record { reading = Name; name = line.name * 32 + b % 32; number = 0; count = line.count })
    (turned Spoilt line)
    h
    h

pub digited_count : (line : Line) (b n : ℕ) → line.count ≤ n → (digited line b).count ≤ n
digited_count line b n h = by (longer line.number b)
  where
    by : (r : Option ℕ) → (number_read line r).count ≤ n
    by (Some k) = h
    by None = h

pub numbered_count : (line : Line) (n : ℕ) (then : Reading) → line.count ≤ n → (numbered line n then).count ≤ n
unfolding numbered
numbered_count line n then h = by-room (ltb line.count n) refl
  where
    by-room :
        (t : Bool)
        → ltb line.count n ≡ t
        → (cond t (record { reading = then; name = line.name; number = 0; count = line.count + 1 }) (turned Spoilt line)).count ≤ n
    by-room true e = let fits : line.count < n = ltb-true _ _ e in omega arith
    by-room false e = h

module _ (line : Line) (b : ℕ) (numbers : List ℕ) (within : Within line numbers) where
  pub comment_begins : line.reading ≡ Nothing → b ≡ 35 → Stepped line b numbers (turned Comment line) numbers
  unfolding stepped kept
  comment_begins told test = record { within = record { count = within.count }; reads = simp (told, eq-eqb _ _ test); holds = simp told }

  pub name_begins : line.reading ≡ Nothing → (b ≡ 35 → ⊥) → Stepped line b numbers (lettered line b) numbers
  unfolding stepped kept
  name_begins told test = record { within = record { count = lettered_count _ _ _ within.count }; reads = simp (told, ne_eqb _ _ test); holds = simp told }

  pub name-ends : line.reading ≡ Name → b ≡ 32 → Stepped line b numbers (turned Gap line) numbers
  unfolding stepped kept
  name-ends told test = record { within = record { count = within.count }; reads = simp (told, eq-eqb _ _ test); holds = simp told }

  pub name-goes-on : line.reading ≡ Name → (b ≡ 32 → ⊥) → Stepped line b numbers (lettered line b) numbers
  unfolding stepped kept
  name-goes-on told test = record { within = record { count = lettered_count _ _ _ within.count }; reads = simp (told, ne_eqb _ _ test); holds = simp told }

  pub number_begins : line.reading ≡ Gap → Stepped line b numbers (digited line b) numbers
  unfolding stepped kept
  number_begins told = record { within = record { count = digited_count line b _ within.count }; reads = simp told; holds = simp told }

  pub number_goes-on : line.reading ≡ Digits → (b ≡ 32 → ⊥) → Stepped line b numbers (digited line b) numbers
  unfolding stepped kept
  number_goes-on told test =
      record { within = record { count = digited_count line b _ within.count }; reads = simp (told, ne_eqb _ _ test); holds = simp (told, ne_eqb _ _ test) }

  pub number-ends :
      line.reading ≡ Digits
      → b ≡ 32
      → Stepped line b numbers (numbered line (length numbers) Gap) (set numbers line.count line.number)
  unfolding stepped kept
  number-ends told test = record {
    within = record { count = simp length-set (numbered_count _ _ _ within.count) };
    reads = simp (told, eq-eqb _ _ test);
    holds = simp (told, eq-eqb _ _ test);
  }

  pub comment_goes-on : line.reading ≡ Comment → Stepped line b numbers line numbers
  unfolding stepped kept
  comment_goes-on told = record { within = within; reads = simp told; holds = simp told }

  pub spoilt-stays : line.reading ≡ Spoilt → Stepped line b numbers line numbers
  unfolding stepped kept
  spoilt-stays told = record { within = within; reads = simp told; holds = simp told }

module _ (line : Line) (numbers : List ℕ) (within : Within line numbers) where
  pub nothing-is-spoilt : line.reading ≡ Nothing → Finished line numbers (turned Spoilt line) numbers
  unfolding finished kept
  nothing-is-spoilt told = record { within = record { count = within.count }; reads = simp told; holds = simp told }

  pub name-alone : line.reading ≡ Name → Finished line numbers line numbers
  unfolding finished kept
  name-alone told = record { within = within; reads = simp told; holds = simp told }

  pub gap-is-spoilt : line.reading ≡ Gap → Finished line numbers (turned Spoilt line) numbers
  unfolding finished kept
  gap-is-spoilt told = record { within = record { count = within.count }; reads = simp told; holds = simp told }

  pub last_number : line.reading ≡ Digits → Finished line numbers (numbered line (length numbers) Name) (set numbers line.count line.number)
  unfolding finished kept
  last_number told = record {
    within = record { count = simp length-set (numbered_count _ _ _ within.count) };
    reads = simp told;
    holds = simp told;
  }

  pub comment_whole : line.reading ≡ Comment → Finished line numbers line numbers
  unfolding finished kept
  comment_whole told = record { within = within; reads = simp told; holds = simp told }

  pub spoilt-whole : line.reading ≡ Spoilt → Finished line numbers line numbers
  unfolding finished kept
  spoilt-whole told = record { within = within; reads = simp told; holds = simp told }
