-- How a link changes where a node stands behind n others of its level, as the link calls change its words. Rests on model's Links and Owners, and on link's Changed.
use Prim.Native.Nat.{ℕ, zero, suc, ◌+◌, ◌-◌, ◌≤◌, ◌<◌}
use mathlib.Core.Path.{◌≡◌, refl, sym, ap, ◌∙◌}
use mathlib.Core.List.{List, [], ◌∷◌}
use lib.ListN.{get_or}
use native.Mathlib.Omega.{arith}
use borrow.Author.Tests.{le-leb, lt-leb}
use Rattle.model.specs.Arena.{to_column, node_words, free_words}
use Rattle.model.specs.Links.{further, target, distance, link_words, link_of, absent_link}
use Rattle.model.specs.Nodes.{Node}
use Rattle.model.proofs.Chained.{free_field}
use Rattle.model.proofs.Links.{past}
use Rattle.model.proofs.Owners.{field, link_column, link_from}
use Rattle.arena.proofs.Relink.{un_past}
use Rattle.link.proofs.Changed.{farther_is}
use Rattle.level_links.specs.OneLevel.{nearer_link, farther_link, longer_link, shorter_link}

further_past : (n d : ℕ) → further (past n d) ≡ past n (further d)
further_past n zero = refl
further_past n (suc d) = omega arith

less_further : (d : ℕ) → further d - 1 ≡ d
less_further zero = omega arith
less_further (suc d) = omega arith

-- distances are small
pub past_le : (n d k : ℕ) → d ≤ k → past n d ≤ n + k
past_le n zero k l = omega arith
past_le n (suc d) k l = omega arith

-- ---- the link of an owner that n nodes part from the nodes Z ----
module _ (n h : ℕ) (Z : List Node) where
  pub nearer_from : nearer_link n (link_from n h Z) ≡ link_of h Z
  nearer_from = ap (λ (d : ℕ). target h Z ∷ d ∷ []) (un_past n (distance h Z))

  pub farther_of : farther_link n (link_of h Z) ≡ link_from n h Z
  farther_of = ap (λ (d : ℕ). target h Z ∷ d ∷ []) (farther_is n (distance h Z))

  -- a node that is high enough comes before them, or one that is not
  module _ (y : Node) where
    pub first-from : h ≤ y.height → (y.slot ∷ (n + 1) ∷ []) ≡ link_from n h (y ∷ Z)
    first-from l = rw (le-leb h y.height l) (ap (λ (d : ℕ). y.slot ∷ d ∷ []) (omega arith))

    pub longer-from : y.height < h → longer_link (link_from n h Z) ≡ link_from n h (y ∷ Z)
    longer-from l = rw (lt-leb h y.height l) (ap (λ (d : ℕ). target h Z ∷ d ∷ []) (further_past n (distance h Z)))

    pub shorter_from : y.height < h → shorter_link (link_from n h (y ∷ Z)) ≡ link_from n h Z
    shorter_from l = ap shorter_link (sym (longer-from l)) ∙ ap (λ (d : ℕ). target h Z ∷ d ∷ []) (less_further (past n (distance h Z)))

-- a free slot's links are absent
pub free_link : (M : ℕ) (fs : List ℕ) {R : List ℕ} → R ≡ free_words M fs → (l : ℕ) → l < M → (j : ℕ) → j < link_words
    → get_or R (to_column l + j) 0 ≡ get_or absent_link j 0
free_link M fs e l k j q = rw e (free_field M fs l j k q)

module _ (M : ℕ) (y : Node) (Z : List Node) {R : List ℕ} (e : R ≡ node_words M y Z) (l : ℕ) (k : l < M) where
  its_word : (j : ℕ) → j < link_words → get_or R (to_column l + j) 0 ≡ field j (suc l) y.height Z
  its_word j q = ap (λ (ks : List ℕ). get_or ks (to_column l + j) 0) e ∙ (link_column M l j k q).node y Z

  pub link_under : l < y.height → (j : ℕ) → j < link_words → get_or R (to_column l + j) 0 ≡ get_or (link_of (suc l) Z) j 0
  link_under p j q = its_word j q ∙ (rw (le-leb (suc l) y.height p) refl)

  pub link_over : y.height ≤ l → (j : ℕ) → j < link_words → get_or R (to_column l + j) 0 ≡ get_or absent_link j 0
  link_over p j q = its_word j q ∙ (rw (lt-leb (suc l) y.height (omega arith)) refl)
