-- `rank_walk::index_mut::by_rank` meets its contract.
-- What `seek` notes is what document 01's walk notes, whether it ends at the head, at a node or with none.
use mathlib.Core.Path.{sym}
use native.Mathlib.Omega.{arith}
use borrow.Author.Tests.{eqb-true}
use Rattle.model.specs.Arena.{next_column}
use Rattle.walk.proofs.Standing.{at-rank, cell_here}
use Rattle.rank_walk.proofs.Ranked.{ranked_head, ranked-past, ranked_there}
use Rattle.rank_walk.proofs.index_mut.by_rank.Goals as goal

pub returns-then-eq : goal.returns-then-eq
returns-then-eq c =
    ranked_head c.args.list.listed _ (eqb-true _ _ (sym c.if-eq.ensures))

pub returns-then-n-target : goal.returns-then-n-target
returns-then-n-target c =
    ranked-past c.args.list.listed _ _ _ c.seek.ensures c.length-n.ensures c.if-n-target.true

pub cell-to-requires : goal.cell-to-requires
cell-to-requires c =
    let i = c.to_index in
    let g = at-rank i.result.0 c.args.list.listed (omega (arith, i.ensures, c.if-n-target.false, c.length-n.ensures)) c.seek-path.ensures.end in
    cell_here g next_column (omega arith)

pub returns : goal.returns
returns c =
    ranked_there c.args.list.listed _ _ _ c.seek-path.ensures c.to_index.ensures (omega (arith, c.if-n-target.false, c.length-n.ensures)) _ c.cell-to.ensures
