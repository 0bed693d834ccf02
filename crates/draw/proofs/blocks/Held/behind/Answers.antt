-- `draw::blocks::Held::behind` meets its contract: the link held behind a node leaves it, or an owner before it.
use native.Mathlib.Omega.{arith}
use Rattle.arena.proofs.Deciding.{yes}
use Rattle.draw.proofs.Holding.{holds_here}
use Rattle.draw.proofs.Drawing.{there, few_keys}
use Rattle.draw.proofs.blocks.Held.behind.Goals as goal

pub arrives-requires : goal.arrives-requires
arrives-requires c =
    (c.requires.2.before, omega (arith, c.requires.0, few_keys c.args.list.listed))

pub overflow_add-result : goal.overflow_add-result
overflow_add-result c =
    omega (arith, c.requires.0, few_keys c.args.list.listed)

pub returns-then-arrives : goal.returns-then-arrives
returns-then-arrives c =
    holds_here (there c.args.list.listed c.requires.0) c.requires.2 (yes c.arrives.ensures c.if-arrives.true) c.distance_at.result c.distance_at.ensures
