-- `arena_check::header::counted` meets its contract. The loop's invariant: the sum of the free count and of the lengths of the heads passed.
use mathlib.Core.Path.{refl}
use Rattle.std.proofs.Common.{rules}
use Rattle.arena_check.proofs.HeadTests.{count_none, count_more}
use Rattle.arena_check.proofs.header.counted.Goals as goal

pub loop-a-init : goal.loop-a-init
loop-a-init c = count_none refl (search rules)

pub loop-a-preserved : goal.loop-a-preserved
loop-a-preserved c =
    count_more c.loop-a.invariant c.cell.ensures c.cell.type_inv
