-- `levelling::height_of` meets its contract: what is counted and what is left of the halving make the whole.
use Prim.Native.Nat.{◌+◌, ◌-◌}
use mathlib.Core.Path.{◌≡◌}
use Rattle.model.specs.Lists.{twos}
use Rattle.levelling.proofs.height_of.Given as goal

abbrev pub invariant-loop-h : goal.invariant-loop-h
invariant-loop-h l = l.h + twos (l.m - l.h) l.rest ≡ twos l.m l.initial.rest
