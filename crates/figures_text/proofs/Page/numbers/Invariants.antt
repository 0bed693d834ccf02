-- `Page::numbers` meets its contract. The loop's invariant: the numbers so far are put, each in 11 bytes at most.
use Prim.Native.Nat.{◌+◌, ◌*◌, ◌≤◌}
use lib.ListN.{take}
use Rattle.figures_text.specs.Texts.{spaced}
use Rattle.figures_text.specs.Pages.{Puts}
use Rattle.figures_text.proofs.Page.numbers.Given as goal

abbrev pub invariant-loop-n : goal.invariant-loop-n
invariant-loop-n l = Puts (spaced (take l.n-index l.ns)) l.initial.self l.self × (l.self.at ≤ l.initial.self.at + 11 * l.n-index)
