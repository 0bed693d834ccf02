-- "Nodes in a list keep slot and height unless stated", the other way: every node that no rule removes or levels still stands, with slot, key and
-- height. Rests on specs/Stays, EveryCall and Ordering.
use Prim.Native.Nat.{ℕ, zero, suc, ◌<◌}
use mathlib.Core.Path.{◌≡◌, refl, sym, ap, subst}
use mathlib.Core.Logic.{◌⊎◌, inl, inr, ◌≢◌}
use mathlib.Core.List.{List, [], ◌∷◌, ◌++◌}
use lib.ListN.{length, take, drop, set, length-set}
use lib.Seq.{get_or-set_same, get_or-set_other}
use native.Mathlib.Omega.{arith}
use Rattle.model.specs.Arena.{State, list_of}
use Rattle.model.specs.Calls.{Call, search, read, insert_key, remove_key, remove_index, truncate, clear, split_at, split_key, append_list, middle, level}
use Rattle.model.specs.Calls.{insert_in, do_split, do_append, performed, result_of}
use Rattle.model.specs.Lists.{insert_at, insert, remove_at, merge_in, append, level_from}
use Rattle.model.specs.Nodes.{Node, node, at, smaller}
use Rattle.model.specs.Stays.{Has, Stands, Gone}
use Rattle.model.proofs.Allowed.{Allowed}
use Rattle.model.proofs.EveryCall.{after_any}
use Rattle.model.proofs.Ordering.{by_case}
use Rattle.model.proofs.Tests.{same, other, same?}

-- ---- parts of lists ----
module _ (y : Node) where
  in_first : (aa bb : List Node) → Has y aa → Has y (aa ++ bb)
  in_first [] bb h = absurd h
  in_first (a ∷ aa) bb h = elim h [ inl e ↦ inl e | inr r ↦ inr (in_first aa bb r) ]

  in_second : (aa bb : List Node) → Has y bb → Has y (aa ++ bb)
  in_second [] bb h = h
  in_second (a ∷ aa) bb h = inr (in_second aa bb h)

  cut_has : (n : ℕ) (xs : List Node) → Has y xs → Has y (take n xs) ⊎ Has y (drop n xs)
  cut_has zero xs h = inr h
  cut_has (suc n) [] h = absurd h
  cut_has (suc n) (x ∷ xs) h = elim h [
    | inl e ↦ inl (inl e)
    | inr r ↦ elim (cut_has n xs r) [ inl p ↦ inl (inr p) | inr q ↦ inr q ]
  ]

  insert-has : (p : ℕ) (n : Node) (xs : List Node) → Has y xs → Has y (insert_at p n xs)
  insert-has p n xs h = elim (cut_has p xs h) [
    | inl q ↦ in_first (take p xs) (n ∷ drop p xs) q
    | inr q ↦ in_second (take p xs) (n ∷ drop p xs) (inr q)
  ]

  remove_has : (p : ℕ) (xs : List Node) → Has y xs → Has y (remove_at p xs) ⊎ (y ≡ at xs p)
  remove_has p [] h = absurd h
  remove_has zero (x ∷ xs) h = elim h [ inl e ↦ inr e | inr r ↦ inl r ]
  remove_has (suc p) (x ∷ xs) h = elim h [
    | inl e ↦ inl (inl e)
    | inr r ↦ elim (remove_has p xs r) [ inl q ↦ inl (inr q) | inr e ↦ inr e ]
  ]

  merge_has : (bb aa : List Node) → Has y aa ⊎ Has y bb → Has y (merge_in bb aa)
  merge_has [] aa h = elim h [ inl p ↦ p | inr q ↦ absurd q ]
  merge_has (b ∷ bb) aa h = merge_has bb (insert b aa) (elim h [
    | inl p ↦ inl (insert-has (smaller b.key aa) b aa p)
    | inr q ↦ elim q [ inl e ↦ inl (in_second (take (smaller b.key aa) aa) (b ∷ drop (smaller b.key aa) aa) (inl e)) | inr r ↦ inr r ]
  ])

  append-has : (aa bb : List Node) → Has y aa ⊎ Has y bb → Has y (append aa bb)
  append-has aa [] h = elim h [ inl p ↦ p | inr q ↦ absurd q ]
  append-has [] (b ∷ bb) h = elim h [ inl p ↦ absurd p | inr q ↦ q ]
  append-has (a ∷ aa) (b ∷ bb) h =
      by_case (λ cs. Has y cs) a aa b bb
      (λ _. elim h [ inl p ↦ in_first (a ∷ aa) (b ∷ bb) p | inr q ↦ in_second (a ∷ aa) (b ∷ bb) q ])
      (λ _. elim h [ inl p ↦ in_second (b ∷ bb) (a ∷ aa) p | inr q ↦ in_first (b ∷ bb) (a ∷ aa) q ])
      (merge_has (b ∷ bb) (a ∷ aa) h)

  level_has : (M k : ℕ) (xs : List Node) → Has y xs → (x : Node) × Has x (level_from M k xs) × (x.slot ≡ y.slot) × (x.key ≡ y.key)
  level_has M k [] h = absurd h
  level_has M k (x ∷ xs) h = elim h [
    | inl e ↦ (_, inl refl, ap (λ (n : Node). n.slot) (sym e), ap (λ (n : Node). n.key) (sym e))
    | inr r ↦ let i = level_has M (suc k) xs r in (i.0, inr i.1, i.2, i.3)
  ]

-- ---- models: list a, or the lists a and b, hold other nodes ----
module _ (y : Node) (S : State) (h : Stands y S) where
  -- where y stood in list a it stands in xs, or is gone
  one_list : {G : Type 0} {T : State} (a : ℕ) (xs : List Node) → a < length S.lists → T.lists ≡ set S.lists a xs → (Has y (list_of S a) → Has y xs ⊎ G) → Stands y T ⊎ G
  one_list {T = T} a xs l e f = elim (same? h.list a) [
    | same _ q ↦ elim (f (subst (λ (z : ℕ). Has y (list_of S z)) q h.there)) [
      | inl g ↦ inl (record { list = a; there = rw (e, get_or-set_same S.lists a xs [] l) g })
      | inr g ↦ inr g
    ]
    | other _ q ↦ inl (record { list = h.list; there = rw (e, get_or-set_other S.lists a h.list xs [] q) h.there })
  ]

  two_lists : {T : State} (a b : ℕ) (xs us : List Node) → a < length S.lists → b < length S.lists → a ≢ b → T.lists ≡ set (set S.lists a xs) b us
      → (Has y (list_of S a) → Has y xs ⊎ Has y us) → (Has y (list_of S b) → Has y xs ⊎ Has y us) → Stands y T
  two_lists {T} a b xs us la lb ne e f g =
      let in_a : list_of T a ≡ xs = rw (e, get_or-set_other (set S.lists a xs) b a us [] ne) (get_or-set_same S.lists a xs [] la) in
      let in_b : list_of T b ≡ us = rw e (get_or-set_same (set S.lists a xs) b us [] (omega (arith, length-set S.lists a xs))) in
      let lands : Has y xs ⊎ Has y us → Stands y T
      = λ p. elim p [ inl i ↦ record { list = a; there = rw in_a i } | inr i ↦ record { list = b; there = rw in_b i } ] in
      elim (same? h.list a) [
        | same _ q ↦ lands (f (subst (λ (z : ℕ). Has y (list_of S z)) q h.there))
        | other _ q ↦ elim (same? h.list b) [
          | same _ r ↦ lands (g (subst (λ (z : ℕ). Has y (list_of S z)) r h.there))
          | other _ r ↦ record {
            list = h.list;
            there = rw (e, get_or-set_other (set S.lists a xs) b h.list us [] r, get_or-set_other S.lists a h.list xs [] q) h.there;
          }
        ]
      ]

  insert-stands : (a k hh : ℕ) (fs : List ℕ) → a < length S.lists → Stands y (insert_in S a k hh fs)
  insert-stands a k hh [] l = h
  insert-stands a k hh (f ∷ fs) l =
      elim (one_list {G = ⊥} {T = insert_in S a k hh (f ∷ fs)} a (insert (node f k hh) (list_of S a)) l refl
      (λ q. inl (insert-has y (smaller k (list_of S a)) (node f k hh) (list_of S a) q))) [ inl p ↦ p | inr p ↦ absurd p ]

  split-stands : (a b i : ℕ) → a < length S.lists → b < length S.lists → a ≢ b → list_of S b ≡ [] → Stands y (do_split S a b i)
  split-stands a b i la lb ne e =
      two_lists {T = do_split S a b i} a b (take i (list_of S a)) (drop i (list_of S a)) la lb ne refl (cut_has y i (list_of S a)) (λ q. absurd (rw e at q))

  remains : (c : Call) → Allowed S c → Stands y (performed S c) ⊎ Gone S c y
  remains (search a k w) p = inl h
  remains (read a i) p = inl h
  remains (insert_key a k hh) p = inl (insert-stands a k hh S.free p.0)
  remains (remove_key a k) p = one_list a _ p.0 refl (remove_has y (smaller k (list_of S a)) (list_of S a))
  remains (remove_index a i) p = one_list a _ p.0 refl (remove_has y i (list_of S a))
  remains (truncate a n) p = one_list a _ p refl (cut_has y n (list_of S a))
  remains (clear a) p = one_list a _ p refl (cut_has y 0 (list_of S a))
  remains (split_at a b i) p = inl (split-stands a b i p.0.0 p.0.1 p.0.2 p.1)
  remains (split_key a b k) p = inl (split-stands a b (smaller k (list_of S a)) p.0.0 p.0.1 p.0.2 p.1)
  remains (append_list a b) p =
      let xs = append (list_of S a) (list_of S b) in
      inl (two_lists {T = do_append S a b} a b xs [] p.0 p.1 p.2 refl
      (λ q. inl (append-has y (list_of S a) (list_of S b) (inl q))) (λ q. inl (append-has y (list_of S a) (list_of S b) (inr q))))
  remains (middle a) p = inl h
  remains (level a) p = one_list a _ p refl (λ q. inr (level_has y S.levels 1 (list_of S a) q))

-- every node that stood still stands, or is gone as the rule states
pub nodes_remain : (y : Node) (S : State) (c : Call) → Stands y S → Stands y (result_of S c) ⊎ Gone S c y
nodes_remain y S c h = after_any (λ T. Stands y T ⊎ Gone S c y) S c (remains y S h c) (inl h)
