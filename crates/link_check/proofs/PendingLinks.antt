-- A pending link at one level, as the nodes that are left say it: an owner's own link, a link that passes a node by, and one that goes there.
-- Rests on model's link_from, the link of an owner that some nodes part from those that are left.
use Prim.Native.Nat.{ℕ, zero, suc, ◌-◌, ◌≤◌, ◌<◌}
use mathlib.Core.Path.{◌≡◌, refl, sym, ◌∙◌}
use mathlib.Core.Bool.{true, false}
use mathlib.Core.List.{List, ◌∷◌}
use lib.Dec.{leb}
use native.Mathlib.Nat.{add-zero}
use native.Mathlib.Omega.{arith}
use borrow.Author.Tests.{le-leb, lt-leb}
use Rattle.model.specs.Cells.{link_at}
use Rattle.model.specs.Links.{distance, further, link_of}
use Rattle.model.specs.Nodes.{Node}
use Rattle.model.proofs.Links.{past}
use Rattle.model.proofs.Owners.{link_from}
use Rattle.arena.specs.Linked.{words_of}
use Rattle.arena.specs.declared.links.Link.{Link}
use Rattle.link_check.specs.declared.Dims.{Dims}
use Rattle.link_check.specs.LevelLinks.{Reaches}

past-none : (d : ℕ) → past 0 d ≡ d
past-none zero = refl
past-none (suc d) = omega arith

past-further : (n d : ℕ) → past n (further d) ≡ past (suc n) d
past-further n zero = refl
past-further n (suc d) = omega arith

-- an owner's own link
pub own_link : (r h : ℕ) (ys : List Node) → link_from (r - r) h ys ≡ link_of h ys
own_link r h ys =
    let z : r - r ≡ 0 = omega arith in
    rw (z, past-none (distance h ys)) refl

module _ (q r h : ℕ) (y : Node) (ys : List Node) (k : q ≤ r) where
  -- a node that is too low is passed by
  pub passes-by : y.height < h → link_from (r - q) h (y ∷ ys) ≡ link_from (suc r - q) h ys
  passes-by p =
      let t : leb h y.height ≡ false = lt-leb h y.height p in
      let n : suc r - q ≡ suc (r - q) = omega arith in
      rw (t, n, past-further (r - q) (distance h ys)) refl

  -- to a node that is high enough the link goes
  abbrev link_to : Link
  link_to = record { target = record { 0 = y.slot }; distance = suc r - q }

  goes_there : h ≤ y.height → link_from (r - q) h (y ∷ ys) ≡ words_of link_to
  goes_there p =
      let t : leb h y.height ≡ true = le-leb h y.height p in
      let n : suc r - q ≡ suc (r - q) = omega arith in
      rw (t, n, add-zero (r - q)) refl

module _ (w : List ℕ) (d : Dims) (l o q r : ℕ) (y : Node) (ys : List Node) (k : q ≤ r) (p : l < y.height) where
  pub link_reaches : link_at d.levels w o l ≡ link_from (r - q) (suc l) (y ∷ ys) → Reaches w d l o q y.slot (suc r)
  link_reaches e = record { by = link_to q r (suc l) y ys k; is = e ∙ goes_there q r (suc l) y ys k p; target = refl; ranks = omega arith }

  pub reaches_link : Reaches w d l o q y.slot (suc r) → link_at d.levels w o l ≡ link_from (r - q) (suc l) (y ∷ ys)
  reaches_link g =
      let t = g.target in
      let f : g.by.distance ≡ suc r - q = omega (arith, g.ranks) in
      g.is ∙ rw (t, f) (sym (goes_there q r (suc l) y ys k p))
