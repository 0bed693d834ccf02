-- Rows 3 and 4 of the table of refusals, whatever the later rows give, and row 8 behind row 3: what they refuse, and what passes them. Rests on
-- model's Calls.
use Prim.Native.Nat.{ℕ, ◌≤◌, ◌<◌}
use mathlib.Core.Path.{◌≡◌, refl, ap, ◌∙◌}
use mathlib.Core.List.{List}
use lib.Dec.{ltb}
use lib.ListN.{length, get_or}
use native.Mathlib.Omega.{arith}
use borrow.Author.Tests.{lt-ltb, le-ltb, eq-eqb, ne_eqb}
use Rattle.model.specs.Arena.{lists_word, levels_word}
use Rattle.model.specs.Passes.{decode, Passes}
use Rattle.model.specs.Calls.{row3, row4, row8}
use Rattle.arena.specs.Owners.{Listed}
use Rattle.arena.specs.Owners.{TwoLists}

-- ---- lists that are there pass the rows ----
pub one_there : {w : List ℕ} {m a : ℕ} → Listed w m a → (later : ℕ) → row3 (decode w) a later ≡ later
one_there {w} {a = a} p later = rw (lt-ltb a (length (decode w).lists) p.list) refl

pub two_there : {w : List ℕ} {m a b : ℕ} → TwoLists w m a b → (later : ℕ) → row3 (decode w) a (row3 (decode w) b (row4 a b later)) ≡ later
two_there {w} {a = a} {b} p later =
    one_there p.first _ ∙ one_there p.second _ ∙ (rw (ne_eqb a b p.apart) refl)

-- ---- n is the header's number of lists ----
module _ {w : List ℕ} (p : Passes w) {n : ℕ} (e : n ≡ get_or w lists_word 0) where
  count : n ≡ length (decode w).lists
  count = e ∙ ap (λ (u : List ℕ). get_or u lists_word 0) p.words

  pub listed : {m a : ℕ} → m ≡ get_or w levels_word 0 → a < n → Listed w m a
  listed k l = record { passes = p; levels = k; list = omega (arith, count) }

  -- "3: a list number is L or more"
  pub no_list : (a : ℕ) → n ≤ a → (later : ℕ) → row3 (decode w) a later ≡ 3
  no_list a l later = rw (le-ltb a (length (decode w).lists) (omega (arith, count))) refl

  passes : (a later : ℕ) → a < n → row3 (decode w) a later ≡ later
  passes a later l = one_there (listed {m = get_or w levels_word 0} refl l) later

  module _ (a b : ℕ) (l : a < n) where
    pub no_second : n ≤ b → (later : ℕ) → row3 (decode w) a (row3 (decode w) b (row4 a b later)) ≡ 3
    no_second k later = passes a _ l ∙ no_list b k _

    -- "4: the two lists named are the same"
    pub same-list : b < n → a ≡ b → (later : ℕ) → row3 (decode w) a (row3 (decode w) b (row4 a b later)) ≡ 4
    same-list k q later = passes a _ l ∙ passes b _ k ∙ (rw (eq-eqb a b q) refl)

-- ---- "8: index at or past the length (read, remove by index); .. middle of an empty list" ----
module _ {w : List ℕ} {m a : ℕ} (there : Listed w m a) (i n : ℕ) where
  pub past_end : n ≤ i → row3 (decode w) a (row8 (ltb i n)) ≡ 8
  past_end l = one_there there _ ∙ (rw (le-ltb i n l) refl)

  pub before-end : i < n → row3 (decode w) a (row8 (ltb i n)) ≡ 0
  before-end l = one_there there _ ∙ (rw (lt-ltb i n l) refl)
