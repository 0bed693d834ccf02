-- "Nodes in a list keep slot and height unless stated": after any call a node that stands in a list stood in one before, with the same slot, key
-- and height, or is the one inserted, or one that was levelled, with its slot and key. Rests on EveryCall and Ordering.
use Prim.Native.Nat.{ℕ, zero, suc}
use mathlib.Core.Path.{◌≡◌, refl, ap}
use mathlib.Core.Logic.{◌⊎◌, inl, inr}
use mathlib.Core.List.{List, [], ◌∷◌, ◌++◌}
use lib.ListN.{take, drop, get_or, set}
use Rattle.model.specs.Arena.{State, list_of, first_free}
use Rattle.model.specs.Calls.{Call, search, read, insert_key, remove_key, remove_index, truncate, clear, split_at}
use Rattle.model.specs.Calls.{split_key, append_list, middle, level, insert_in, do_split, do_level, performed, result_of}
use Rattle.model.specs.Lists.{insert_at, insert, remove_at, merge_in, append, level_from}
use Rattle.model.specs.Nodes.{Node, node, smaller}
use Rattle.model.specs.Stays.{Has, Stands, Stated}
use Rattle.model.proofs.EveryCall.{after_any}
use Rattle.model.proofs.Ordering.{by_case}

-- ---- parts of lists ----
has-take : (y : Node) (n : ℕ) (xs : List Node) → Has y (take n xs) → Has y xs
has-take y zero xs h = absurd h
has-take y (suc n) [] h = h
has-take y (suc n) (x ∷ xs) h = elim h [ inl e ↦ inl e | inr r ↦ inr (has-take y n xs r) ]

has-drop : (y : Node) (n : ℕ) (xs : List Node) → Has y (drop n xs) → Has y xs
has-drop y zero xs h = h
has-drop y (suc n) [] h = h
has-drop y (suc n) (x ∷ xs) h = inr (has-drop y n xs h)

has_both : (y : Node) (aa bb : List Node) → Has y (aa ++ bb) → Has y aa ⊎ Has y bb
has_both y [] bb h = inr h
has_both y (a ∷ aa) bb h = elim h [
  | inl e ↦ inl (inl e)
  | inr r ↦ elim (has_both y aa bb r) [ inl p ↦ inl (inr p) | inr q ↦ inr q ]
]

has-insert : (y n : Node) (p : ℕ) (xs : List Node) → Has y (insert_at p n xs) → (y ≡ n) ⊎ Has y xs
has-insert y n p xs h = elim (has_both y (take p xs) (n ∷ drop p xs) h) [
  | inl q ↦ inr (has-take y p xs q)
  | inr q ↦ elim q [ inl e ↦ inl e | inr r ↦ inr (has-drop y p xs r) ]
]

has_remove : (y : Node) (p : ℕ) (xs : List Node) → Has y (remove_at p xs) → Has y xs
has_remove y p xs h = elim (has_both y (take p xs) (drop (suc p) xs) h) [ inl q ↦ has-take y p xs q | inr q ↦ has-drop y (suc p) xs q ]

has_merge : (y : Node) (bb aa : List Node) → Has y (merge_in bb aa) → Has y aa ⊎ Has y bb
has_merge y [] aa h = inl h
has_merge y (b ∷ bb) aa h = elim (has_merge y bb (insert b aa) h) [
  | inl q ↦ elim (has-insert y b (smaller b.key aa) aa q) [ inl e ↦ inr (inl e) | inr r ↦ inl r ]
  | inr q ↦ inr (inr q)
]

has-append : (y : Node) (aa bb : List Node) → Has y (append aa bb) → Has y aa ⊎ Has y bb
has-append y aa [] = inl
has-append y [] (b ∷ bb) = inr
has-append y (a ∷ aa) (b ∷ bb) =
    by_case (λ cs. Has y cs → Has y (a ∷ aa) ⊎ Has y (b ∷ bb)) a aa b bb
    (λ e. has_both y (a ∷ aa) (b ∷ bb)) (λ e h. elim (has_both y (b ∷ bb) (a ∷ aa) h) [ inl r ↦ inr r | inr r ↦ inl r ]) (has_merge y (b ∷ bb) (a ∷ aa))

-- ---- models ----
has-set : (y : Node) (xss : List (List Node)) (a : ℕ) (xs : List Node) (z : ℕ) → Has y (get_or (set xss a xs) z []) → Has y xs ⊎ Has y (get_or xss z [])
has-set y [] a xs z h = inr h
has-set y (us ∷ xss) zero xs zero h = inl h
has-set y (us ∷ xss) zero xs (suc z) h = inr h
has-set y (us ∷ xss) (suc a) xs zero h = inr h
has-set y (us ∷ xss) (suc a) xs (suc z) h = has-set y xss a xs z h

module _ (y : Node) (S : State) where
  -- where list a holds xs instead, y stands in xs or stood there before
  one_list : (a : ℕ) (xs : List Node) (z : ℕ) → Has y (get_or (set S.lists a xs) z []) → (Has y xs → Has y (list_of S a)) → Stands y S
  one_list a xs z h f = elim (has-set y S.lists a xs z h) [ inl q ↦ record { list = a; there = f q } | inr q ↦ record { list = z; there = q } ]

  two_lists : (a b : ℕ) (xs us : List Node) (z : ℕ) → Has y (get_or (set (set S.lists a xs) b us) z []) → (Has y xs → Stands y S) → (Has y us → Stands y S) → Stands y S
  two_lists a b xs us z h f g = elim (has-set y (set S.lists a xs) b us z h) [
    | inl q ↦ g q
    | inr q ↦ elim (has-set y S.lists a xs z q) [ inl r ↦ f r | inr r ↦ record { list = z; there = r } ]
  ]

  in_a : (a : ℕ) → Has y (list_of S a) → Stands y S
  in_a a h = record { list = a; there = h }

has_level : (y : Node) (M k : ℕ) (xs : List Node) → Has y (level_from M k xs) → (x : Node) × Has x xs × (y.slot ≡ x.slot) × (y.key ≡ x.key)
has_level y M k [] h = absurd h
has_level y M k (x ∷ xs) h = elim h [
  | inl e ↦ (x, inl refl, ap (λ (n : Node). n.slot) e, ap (λ (n : Node). n.key) e)
  | inr r ↦ let i = has_level y M (suc k) xs r in (i.0, inr i.1, i.2, i.3)
]

inserted : (y : Node) (S : State) (a k h : ℕ) (fs : List ℕ) → Stands y (insert_in S a k h fs) → Stands y S ⊎ (y ≡ node (first_free fs) k h)
inserted y S a k h [] p = inl p
inserted y S a k h (f ∷ fs) p = elim (has-set y S.lists a (insert (node f k h) (list_of S a)) p.list p.there) [
  | inl q ↦ elim (has-insert y (node f k h) (smaller k (list_of S a)) (list_of S a) q) [ inl e ↦ inr e | inr r ↦ inl (in_a y S a r) ]
  | inr q ↦ inl (in_a y S p.list q)
]

levelled : (y : Node) (S : State) (a : ℕ) → Stands y (do_level S a) → Stands y S ⊎ Stated S (level a) y
levelled y S a p = elim (has-set y S.lists a (level_from S.levels 1 (list_of S a)) p.list p.there) [
  | inl q ↦ inr (has_level y S.levels 1 (list_of S a) q)
  | inr q ↦ inl (in_a y S p.list q)
]

cut : (y : Node) (S : State) (a b i : ℕ) → Stands y (do_split S a b i) → Stands y S
cut y S a b i p =
    let xs = list_of S a in
    two_lists y S a b (take i xs) (drop i xs) p.list p.there (λ q. in_a y S a (has-take y i xs q)) (λ q. in_a y S a (has-drop y i xs q))

stays : (y : Node) (S : State) (c : Call) → Stands y (performed S c) → Stands y S ⊎ Stated S c y
stays y S (search a k w) p = inl p
stays y S (read a i) p = inl p
stays y S (insert_key a k h) p = inserted y S a k h S.free p
stays y S (remove_key a k) p = inl (one_list y S a _ p.list p.there (has_remove y (smaller k (list_of S a)) (list_of S a)))
stays y S (remove_index a i) p = inl (one_list y S a _ p.list p.there (has_remove y i (list_of S a)))
stays y S (truncate a n) p = inl (one_list y S a _ p.list p.there (has-take y n (list_of S a)))
stays y S (clear a) p = inl (one_list y S a _ p.list p.there (has-take y 0 (list_of S a)))
stays y S (split_at a b i) p = inl (cut y S a b i p)
stays y S (split_key a b k) p = inl (cut y S a b (smaller k (list_of S a)) p)
stays y S (append_list a b) p =
    inl (two_lists y S a b _ [] p.list p.there (λ q. elim (has-append y (list_of S a) (list_of S b) q) [ inl r ↦ in_a y S a r | inr r ↦ in_a y S b r ]) (λ q. absurd q))
stays y S (middle a) p = inl p
stays y S (level a) p = levelled y S a p

pub nodes_stay : (y : Node) (S : State) (c : Call) → Stands y (result_of S c) → Stands y S ⊎ Stated S c y
nodes_stay y S c = after_any (λ T. Stands y T → Stands y S ⊎ Stated S c y) S c (λ a. stays y S c) (λ p. inl p)
