-- What a join before leaves, and the words that it stores of a level and of next. Rests on model's specs and on arena's links.
use Rattle.std.specs.Prelude.{ℕ, List, [], ◌++◌}
use Rattle.model.specs.Nodes.{N}
use Rattle.model.specs.Links.{absent_link}
use Rattle.model.specs.Arena.{next_column, State, list_of, put_list}
use Rattle.model.specs.Cells.{cell_at, link_at, put_at}
use Rattle.arena.specs.Linked.{put_link}

-- Append's second case, "b precedes a" (no call by itself): the nodes of list b come before those of list a. "b ends empty."
abbrev pub do_join_before : State → ℕ → ℕ → State
do_join_before S a b = put_list (put_list S a (list_of S b ++ list_of S a) S.free) b [] S.free

-- The words with link k of level l at slot s, then the link that slot b has at slot a, then none at slot b; the same of next.
abbrev pub link_before : ℕ → List ℕ → ℕ → ℕ → List ℕ → ℕ → ℕ → List ℕ
link_before m w l s k a b = let u = put_link m w s l k in put_link m (put_link m u a l (link_at m u b l)) b l absent_link

abbrev pub next_before : ℕ → List ℕ → ℕ → ℕ → ℕ → ℕ → List ℕ
next_before m w s v a b = let u = put_at m w s next_column v in put_at m (put_at m u a next_column (cell_at m u b next_column)) b next_column N
