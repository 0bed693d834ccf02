-- The smallest and the largest figure are what they are called: on a list in order, no key is below the first or above the last.
-- For readers of specs/Figured. Rests on model's Nodes, and on Keeps for the lists of an arena that passes.
use Prim.Native.Nat.{ℕ, zero, suc, ◌≤◌, ◌<◌}
use mathlib.Core.List.{List, [], ◌∷◌}
use lib.ListN.{length}
use native.Mathlib.Nat.{le_refl, not-suc-le-zero}
use native.Mathlib.Omega.{arith}
use Rattle.model.specs.Nodes.{Node, key_at, Sorted}
use Rattle.model.specs.Passes.{decode, nodes, Passes}
use Rattle.model.proofs.Keeps.{sorted-list}
use Rattle.model.proofs.Precursor.{above_at}
use Rattle.figures.specs.Figured.{figures_of}

-- keys never fall from an index to a later one
rises : (xs : List Node) → Sorted xs → (i j : ℕ) → i ≤ j → j < length xs → key_at xs i ≤ key_at xs j
rises [] s i j l k = absurd (not-suc-le-zero k)
rises (y ∷ ys) s zero zero l k = le_refl y.key
rises (y ∷ ys) s zero (suc j) l k = above_at y.key ys s.0 j (omega arith)
rises (y ∷ ys) s (suc i) zero l k = absurd (not-suc-le-zero l)
rises (y ∷ ys) s (suc i) (suc j) l k = rises ys s.1 i j (omega arith) (omega arith)

-- at an index i that is there, so the list has at least one key
pub ends_hold : (xs : List Node) → Sorted xs → (i : ℕ) → i < length xs → ((figures_of xs).smallest ≤ key_at xs i) × (key_at xs i ≤ (figures_of xs).largest)
ends_hold xs s i l = (rises xs s 0 i (omega arith) l, rises xs s i _ (omega arith) (omega arith))

-- the lists of an arena that passes are in order
pub arena_ends_hold : {w : List ℕ} → Passes w → (a i : ℕ) → i < length (nodes w a)
    → ((figures_of (nodes w a)).smallest ≤ key_at (nodes w a) i) × (key_at (nodes w a) i ≤ (figures_of (nodes w a)).largest)
arena_ends_hold {w} p a = ends_hold (nodes w a) (sorted-list (decode w) p.sound a)
