-- `checked_changing::remove_key` meets its contract: row 3, then row 9 where the search finds nothing, else the removal at the index found.
use Rattle.checked_changing.proofs.RemoveByKey.{enough, goes_out, removed_words}
use Rattle.checked_changing.proofs.remove_key.Goals as goal

pub returns-in_default-2 : goal.returns-in_default-2
returns-in_default-2 c = absurd (enough c.in_ok-m.ensures _ (rw (c.in_default.is, c.new.ensures.words, c.new.ensures.head) at c.search.ensures))

pub remove_at-requires : goal.remove_at-requires
remove_at-requires c = goes_out c.in_ok-m.ensures _ (rw (c.in-Ok-Found.is, c.in-Ok-Found.field-0-is, c.new.ensures.words, c.new.ensures.head) at c.search.ensures)

pub returns : goal.returns
returns c =
    let (words, key) = c.remove_at.ensures in
    removed_words c.in_ok-m.ensures _ (rw (c.in-Ok-Found.is, c.in-Ok-Found.field-0-is, c.new.ensures.words, c.new.ensures.head) at c.search.ensures) words key
