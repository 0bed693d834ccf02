-- The words with a list's chain and the free chain's header words stored, where a node goes in or out. Rests on model's cells and on arena's RecordIn.
use Rattle.std.specs.Prelude.{ℕ, List, set}
use Rattle.model.specs.Arena.{count_column, key_column, height_column, next_column, last_column, first_free_word, free_word}
use Rattle.model.specs.Cells.{put_at}
use Rattle.arena.specs.RecordIn.{RecordIn}
use Rattle.chain_words.specs.declared.Head.{Head}
use Rattle.chain_words.specs.declared.Record.{Record}

-- The records of the head a, of slot e just before the node, and of the node's slot o lie in the slice.
pub record ChainLies (w : List ℕ) (m a e o : ℕ) : Type 0 where
  pub head : RecordIn w m a
  pub end : RecordIn w m e
  pub node : RecordIn w m o

-- Length and last node of the head, next of slot e, and the first words of the node's record.
abbrev pub put_chain : ℕ → List ℕ → Head → ℕ → ℕ → Record → List ℕ
put_chain m w a e next o =
    let w₃ = put_at m w a.slot.0 last_column a.last.0 in
    let w₂ = put_at m (put_at m w₃ e next_column next) o.slot.0 next_column o.next.0 in
    let w₁ = put_at m w₂ o.slot.0 height_column o.height in
    put_at m (put_at m w₁ a.slot.0 count_column a.count) o.slot.0 key_column o.key

abbrev pub put_free : List ℕ → ℕ → ℕ → List ℕ
put_free w first count = set (set w first_free_word first) free_word count
