-- What a column of a record says of its owner, what a slot is, and links over two lists. Rests on Builds and Links.
use Prim.Native.Nat.{ℕ, zero, suc, ◌+◌, ◌*◌, ◌≤◌, ◌<◌}
use mathlib.Core.Path.{◌≡◌, refl, ap, ◌∙◌}
use mathlib.Core.Logic.{◌≢◌}
use mathlib.Core.Bool.{Bool, true, false, cond}
use mathlib.Core.List.{List, [], ◌∷◌, ◌++◌}
use lib.Dec.{leb, ltb}
use lib.ListN.{length, get_or, get_or-append}
use lib.Seq.{get_or-append-add}
use native.Mathlib.Nat.{not-suc-le-zero, add-zero, zero-add}
use native.Mathlib.Omega.{arith}
use borrow.Author.Tests.{le-leb}
use Rattle.model.specs.Arena.{next_column, to_column, State, node_links, node_words, head_words, first_slot, list_of, slots_of}
use Rattle.model.specs.Links.{target, distance, link_words, link_of, absent_link}
use Rattle.model.specs.Nodes.{Node}
use Rattle.model.specs.Passes.{times_all, Sound}
use Rattle.model.specs.Closed.{last}
use Rattle.model.proofs.Builds.{in_list, in_lists_lem, in_free_lem}
use Rattle.model.proofs.Links.{past, distance-append, target-append}
use Rattle.model.proofs.Steps.{further-zero}
use Rattle.model.proofs.Tests.{hit, miss, test}

-- word j of the link of stage h, of an owner of height ht that ys follow
abbrev pub field : ℕ → ℕ → ℕ → List Node → ℕ
field j h ht ys = get_or (cond (leb h ht) (link_of h ys) absent_link) j 0

-- column c of an owner is q of its height and of the nodes that follow
pub record Column (M c : ℕ) (q : ℕ → List Node → ℕ) : Type 0 where
  pub head : (xs : List Node) → get_or (head_words M xs) c 0 ≡ q M xs
  pub node : (y : Node) (ys : List Node) → get_or (node_words M y ys) c 0 ≡ q y.height ys

length_link : (b : Bool) (h : ℕ) (ys : List Node) → length (cond b (link_of h ys) absent_link) ≡ link_words
length_link true h ys = refl
length_link false h ys = refl

links_at : (l₀ n ht : ℕ) (ys : List Node) (l j : ℕ) → l < n → j < link_words → get_or (node_links l₀ n ht ys) (link_words * l + j) 0 ≡ field j (suc (l₀ + l)) ht ys
links_at l₀ zero ht ys l j p q = absurd (not-suc-le-zero p)
links_at l₀ (suc n) ht ys zero j p q =
    let k = length_link (ltb l₀ ht) (suc l₀) ys in
    let e : link_words * 0 + j ≡ j = omega arith in
    rw (e, add-zero l₀) (get_or-append (cond (ltb l₀ ht) (link_of (suc l₀) ys) absent_link) (node_links (suc l₀) n ht ys) 0 j (omega (arith, k)))
links_at l₀ (suc n) ht ys (suc l) j p q =
    let first = cond (ltb l₀ ht) (link_of (suc l₀) ys) absent_link in
    let e : link_words * suc l + j ≡ length first + (link_words * l + j) = omega (arith, length_link (ltb l₀ ht) (suc l₀) ys) in
    let f : l₀ + suc l ≡ suc l₀ + l = omega arith in
    rw (e, f) (get_or-append-add first (node_links (suc l₀) n ht ys) (link_words * l + j) 0 ∙ links_at (suc l₀) n ht ys l j (omega arith) q)

-- field j of the link of level l
pub link_column : (M l j : ℕ) → l < M → j < link_words → Column M (to_column l + j) (field j (suc l))
link_column M l j k q =
    let e : to_column l + j ≡ suc (suc (suc (suc (link_words * l + j)))) = omega arith in
    record {
      head = λ xs. ap (λ (c : ℕ). get_or (head_words M xs) c 0) e ∙ links_at 0 M M xs l j k q ∙ ap (λ (h : ℕ). field j (suc h) M xs) (zero-add l);
      node = λ y ys.
          ap (λ (c : ℕ). get_or (node_words M y ys) c 0) e ∙ links_at 0 M y.height ys l j k q ∙ ap (λ (h : ℕ). field j (suc h) y.height ys) (zero-add l);
    }

-- next is the target of stage 0
first-target : (h : ℕ) (xs : List Node) → first_slot xs ≡ field 0 0 h xs
first-target h [] = rw (le-leb 0 h (omega arith)) refl
first-target h (y ∷ ys) = rw (le-leb 0 h (omega arith), le-leb 0 y.height (omega arith)) refl

pub next-column : (M : ℕ) → Column M next_column (field 0 0)
next-column M = record { head = λ xs. first-target M xs; node = λ y ys. first-target y.height ys }

-- ---- the last of a height, and links ----
pub last_mid : (h : ℕ) (aa : List Node) (y : Node) (zs : List Node) → h ≤ y.height → last h (aa ++ y ∷ zs) ≡ suc (length aa + last h zs)
last_mid h [] y zs l = rw (le-leb h y.height l) (omega arith)
last_mid h (a ∷ aa) y zs l = elim (test h a.height) [
  | hit e p ↦ rw (e, last_mid h aa y zs l) (omega arith)
  | miss e p ↦ rw (e, last_mid h aa y zs l) (omega arith)
]

pub last-distance : (h : ℕ) (ys : List Node) → last h ys ≡ 0 → distance h ys ≡ 0
last-distance h [] e = refl
last-distance h (y ∷ ys) e = elim (test h y.height) [
  | hit f p ↦ absurd (omega (arith, rw f at e))
  | miss f p ↦ rw (f, last-distance h ys (further-zero (last h ys) (rw f at e))) refl
]

pub distance-last : (h : ℕ) (ys : List Node) → distance h ys ≡ 0 → last h ys ≡ 0
distance-last h [] e = refl
distance-last h (y ∷ ys) e = elim (test h y.height) [
  | hit f p ↦ absurd (omega (arith, rw f at e))
  | miss f p ↦ rw (f, distance-last h ys (further-zero (distance h ys) (rw f at e))) refl
]

-- a link that ends in the first list is not changed by what follows it
pub near : (h : ℕ) (vs Z : List Node) → distance h vs ≢ 0 → link_of h (vs ++ Z) ≡ link_of h vs
near h [] Z ne = absurd (ne refl)
near h (y ∷ vs) Z ne = elim (test h y.height) [
  | hit f p ↦ rw f refl
  | miss f p ↦
      let e = near h vs Z (λ z. ne (rw (f, z) refl)) in
      let to : target h (vs ++ Z) ≡ target h vs = cc in
      let far : distance h (vs ++ Z) ≡ distance h vs = cc in
      rw (f, to, far) refl
]

-- the link of an owner that n nodes without one of height h part from the nodes Z
abbrev pub link_from : ℕ → ℕ → List Node → List ℕ
link_from n h Z = target h Z ∷ past n (distance h Z) ∷ []

-- a link that does not end in the first list goes on
pub beyond : (h : ℕ) (vs Z : List Node) → distance h vs ≡ 0 → link_of h (vs ++ Z) ≡ link_from (length vs) h Z
beyond h vs Z e =
    let to = target-append h vs Z e in
    let far : distance h (vs ++ Z) ≡ past (length vs) (distance h Z) = distance-append h vs Z ∙ (rw e refl) in
    rw (to, far) refl

-- ---- what a slot is ----
pub data Kind (S : State) (s : ℕ) : Type 0 where
  head : s < length S.lists → Kind S s
  listed : (a : ℕ) → a < length S.lists → (aa : List Node) (y : Node) (ys : List Node) → list_of S a ≡ aa ++ y ∷ ys → y.slot ≡ s → Kind S s
  freed : (gs hs : List ℕ) → S.free ≡ gs ++ s ∷ hs → Kind S s

pub kind : (S : State) → Sound S → (s : ℕ) → s < slots_of S → Kind S s
kind S v s l = elim (test (suc s) (length S.lists)) [
  | hit e p ↦ head p
  | miss e p ↦ elim (test 1 (times_all s S.lists)) [
    | hit f q ↦
        let i = in_lists_lem s S.lists q in
        let j = in_list s (list_of S i.0) i.2 in
        listed i.0 i.1 j.0 j.1 j.2 j.3 j.4
    | miss f q ↦
        let i = in_free_lem s S.free (omega (arith, v.once s (omega arith) l)) in
        freed i.0 i.1 i.2
  ]
]
