-- Append's last case, of the model: the merging of one list into another, and its first step. Rests on model's Lists and Calls.
use Rattle.std.specs.Prelude.{ℕ, []}
use Rattle.model.specs.Nodes.{at, key_at}
use Rattle.model.specs.Lists.{merge_in}
use Rattle.model.specs.Arena.{State, list_of, put_list}
use Rattle.model.specs.Calls.{do_insert, do_remove}

-- "b's nodes, first to last, each go before the first key not below theirs in a as it then stands".
abbrev pub do_merge : State → ℕ → ℕ → State
do_merge S a b = put_list (put_list S a (merge_in (list_of S b) (list_of S a)) S.free) b [] S.free

-- The first node of b is removed and inserted in a, which takes the slot just freed.
abbrev pub moved_first : State → ℕ → ℕ → State
moved_first S a b = do_insert (do_remove S b 0) a (key_at (list_of S b) 0) (at (list_of S b) 0).height
