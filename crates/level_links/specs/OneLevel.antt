-- One level of an insertion or a removal: which links change, and to what; and the words once every level is done.
-- Rests on model's cells and on arena's links.
use Rattle.std.specs.Prelude.{ℕ, ◌+◌, ◌-◌, ◌≤◌, ◌<◌, ◌≡◌, cond, List, [], ◌∷◌, eqb, take, get_or}
use Rattle.model.specs.Arena.{header_words, to_column, far_column, width, State, record_of, slots_of}
use Rattle.model.specs.Cells.{cell_at, link_at}
use Rattle.model.specs.Links.{further, absent_link}
use Rattle.model.specs.Passes.{decode}
use Rattle.arena.specs.Linked.{LinkIn, put_link}
use Rattle.arena.specs.Between.{Between}

-- The words of a link whose owner is n ranks further on, or further back; of one that spans a node that comes, or that goes.
-- An absent link stays absent.
abbrev pub nearer_link : ℕ → List ℕ → List ℕ
nearer_link n k = get_or k 0 0 ∷ (get_or k 1 0 - n) ∷ []

abbrev pub farther_link : ℕ → List ℕ → List ℕ
farther_link n k = get_or k 0 0 ∷ cond (eqb (get_or k 1 0) 0) 0 (get_or k 1 0 + n) ∷ []

abbrev pub longer_link : List ℕ → List ℕ
longer_link k = get_or k 0 0 ∷ further (get_or k 1 0) ∷ []

abbrev pub shorter_link : List ℕ → List ℕ
shorter_link k = get_or k 0 0 ∷ (get_or k 1 0 - 1) ∷ []

-- The links of level l of slots s and o are there, and their distances leave room; s has rank `back` less than the place's.
pub record LevelFits (w : List ℕ) (m l s o back : ℕ) : Type 0 where
  pub precursor : LinkIn w m s l
  pub node : LinkIn w m o l
  pub near : back < 65536
  pub far : cell_at m w s (far_column l) < 4294967295
  pub far_node : cell_at m w o (far_column l) < 65536

-- A node of height h goes into slot o behind s: below its height s leads to it, and it takes over the link of s; above, that link spans it.
pub record LevelInserted (m l h s o back : ℕ) (w u : List ℕ) : Type 0 where
  pub under : l < h → u ≡ put_link m (put_link m w s l (o ∷ (back + 1) ∷ [])) o l (nearer_link back (link_at m w s l))
  pub over : h ≤ l → u ≡ put_link m w s l (longer_link (link_at m w s l))

-- It goes out: below its height s takes over its link, above, the link of s no longer spans it.
pub record LevelRemoved (m l h s o back : ℕ) (w u : List ℕ) : Type 0 where
  pub under : l < h → u ≡ put_link m (put_link m w s l (farther_link back (link_at m w o l))) o l absent_link
  pub over : h ≤ l → u ≡ put_link m w s l (shorter_link (link_at m w s l))

-- The links are as in the model T; the header and the columns before the links are as before.
pub record LinksDone (before : List ℕ) (T : State) (m : ℕ) (after : List ℕ) : Type 0 where
  pub front : take header_words after ≡ take header_words before
  pub between : Between m (slots_of (decode before)) (record_of T) (record_of (decode before)) (to_column 0) (width m) after
