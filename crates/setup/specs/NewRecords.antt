-- The records of a new arena, and what the parts of set-up leave. Rests on model's Arena and Cells.
use Rattle.std.specs.Prelude.{ℕ, ◌-◌, ◌≤◌, ◌<◌, ◌≡◌, List, [], ◌∷◌, ◌++◌, length, take, drop, get_or}
use Rattle.model.specs.Arena.{header_words, width, absent_links, record_of, set_up}
use Rattle.model.specs.Cells.{cell_at}
use Rattle.setup.specs.declared.Front.{Front}

-- The words before the links; a record whose links are all absent.
abbrev pub front_words : Front → List ℕ
front_words f = f.count ∷ f.height ∷ f.next ∷ f.last ∷ []

abbrev pub bare_record : ℕ → Front → List ℕ
bare_record M f = front_words f ++ absent_links M

-- The columns of slot s from lo up to hi are R's, and every other word of a record is as it was.
pub record Written (M : ℕ) (before : List ℕ) (s : ℕ) (R : List ℕ) (lo hi : ℕ) (after : List ℕ) : Type 0 where
  pub size : length after ≡ length before
  pub here : (c : ℕ) → lo ≤ c → c < hi → cell_at M after s c ≡ get_or R c 0
  pub rest : (z c : ℕ) → c < width M → (z ≡ s → lo ≤ c → c < hi → ⊥) → cell_at M after z c ≡ cell_at M before z c

-- The first k of n records are a new arena's.
pub record FirstNew (L M n : ℕ) (before : List ℕ) (k : ℕ) (after : List ℕ) : Type 0 where
  pub size : length after ≡ length before
  pub records : (s c : ℕ) → s < k → c < width M → cell_at M after s c ≡ get_or (record_of (set_up L M (n - L)) s) c 0

-- The first eight words are H, and the others are as they were.
pub record HeaderSet (before H after : List ℕ) : Type 0 where
  pub size : length after ≡ length before
  pub front : take header_words after ≡ H
  pub rest : drop header_words after ≡ drop header_words before
