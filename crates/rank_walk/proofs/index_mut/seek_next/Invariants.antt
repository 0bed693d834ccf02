-- `rank_walk::index_mut::seek_next` meets its contract.
-- The invariant: the walk stands in the list at the counted rank, no further than the limit.
use Rattle.walk.specs.Standing.{Standing}
use Rattle.rank_walk.proofs.index_mut.seek_next.Given as goal

abbrev pub invariant-loop-rank : goal.invariant-loop-rank
invariant-loop-rank l = Standing l.list.words.now l.list.levels l.list.head.0 l.fn.limit.0 0 l.slot.0 l._rank
