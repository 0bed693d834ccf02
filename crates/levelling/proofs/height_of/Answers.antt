-- `levelling::height_of` meets its contract: what is counted and what is left of the halving make the whole.
use Prim.Native.Nat.{◌+◌, ◌-◌}
use native.Mathlib.Omega.{arith}
use Rattle.levelling.proofs.Heights.{even_turn}
use Rattle.levelling.proofs.height_of.Goals as goal

pub loop-h-preserved : goal.loop-h-preserved
loop-h-preserved c =
    let left = c.args.m - c.loop-h.h in
    omega (arith, even_turn left (c.args.m - (c.loop-h.h + 1)) c.loop-h.rest (omega arith) c.if-rest-eq1.false, c.loop-h.invariant)
