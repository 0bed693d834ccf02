-- Rows 5 and 6 of the table of refusals, behind row 3: what they refuse, and what passes them. Rests on model's Calls.
use Prim.Native.Nat.{ℕ, ◌≤◌, ◌<◌}
use mathlib.Core.Path.{◌≡◌, refl, ◌∙◌}
use mathlib.Core.List.{List}
use lib.ListN.{length}
use borrow.Author.Tests.{lt-ltb, le-leb, lt-leb}
use Rattle.model.specs.Passes.{decode}
use Rattle.model.specs.Calls.{insert_key, refusal}
use Rattle.arena.specs.Owners.{Listed}
use Rattle.answers.proofs.Rows.{one_there}

module _ {w : List ℕ} {m a : ℕ} (there : Listed w m a) (k h : ℕ) where
  -- "5: the height is above M"
  pub too_high : m < h → refusal (decode w) (insert_key a k h) ≡ 5
  too_high l = one_there there _ ∙ (rw (lt-leb h (decode w).levels (rw there.levels at l)) refl)

  module _ (low : h ≤ m) where
    -- "6: insert: no free slot"
    pub none_free : length (decode w).free ≡ 0 → refusal (decode w) (insert_key a k h) ≡ 6
    none_free n = one_there there _ ∙ (rw (le-leb h (decode w).levels (rw there.levels at low), n) refl)

    pub has_room : 0 < length (decode w).free → refusal (decode w) (insert_key a k h) ≡ 0
    has_room n = one_there there _ ∙ (rw (le-leb h (decode w).levels (rw there.levels at low), lt-ltb 0 (length (decode w).free) n) refl)
