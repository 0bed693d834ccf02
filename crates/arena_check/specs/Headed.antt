-- The header of any words, the numbers that it says, and what the heads say together. Rests on link_check's Shape.
use Rattle.std.specs.Prelude.{ℕ, zero, suc, ◌+◌, ◌≤◌, ◌≡◌, List, length, get_or}
use Rattle.model.specs.Arena.{header_words, mark_word, version_word, lists_word, levels_word, room_word, first_free_word, free_word, zero_word, mark, version}
use Rattle.model.specs.Nodes.{N}
use Rattle.link_check.specs.declared.Dims.{Dims}
use Rattle.link_check.specs.declared.records.Records.{Records}
use Rattle.link_check.specs.Shape.{Shape, count_in, last_in}

-- The numbers of lists, levels and nodes that the header says; of free slots, and the first of them.
abbrev pub dims_of : List ℕ → Dims
dims_of w = record { lists = get_or w lists_word 0; levels = get_or w levels_word 0; room = get_or w room_word 0 }

abbrev pub free_count : List ℕ → ℕ
free_count w = get_or w free_word 0

abbrev pub first_free_slot : List ℕ → ℕ
first_free_slot w = get_or w first_free_word 0

-- "Length and header are as above".
pub record Headed (w : List ℕ) : Type 0 where
  pub eight : header_words ≤ length w
  pub is_mark : get_or w mark_word 0 ≡ mark
  pub is_version : get_or w version_word 0 ≡ version
  pub last_word : get_or w zero_word 0 ≡ 0
  pub shape : Shape w (dims_of w)

-- The records r are those of the words w, whose header is right.
pub record HeaderRead (w : List ℕ) (r : Records) : Type 0 where
  pub headed : Headed w
  pub words : r.words.now ≡ w
  pub dims : r.dims ≡ dims_of w

-- The lengths that the first n heads say, in all.
unfoldable pub lengths : List ℕ → Dims → ℕ → ℕ
lengths w d zero = zero
lengths w d (suc a) = lengths w d a + count_in w d a

-- The last slots that the heads a and b say differ, but for empty lists.
unfoldable pub LastsDiffer : List ℕ → Dims → ℕ → ℕ → Type 0
LastsDiffer w d a b = last_in w d a ≡ last_in w d b → last_in w d a ≡ N
