-- On words that pass, the walks over the stored words are the walks over the model. Rests on Clauses (what the columns of an owner hold) and Steps.
use Prim.Native.Nat.{ℕ, zero, suc, ◌+◌, ◌-◌, ◌≤◌, ◌<◌}
use mathlib.Core.Path.{◌≡◌, refl, ap, ◌∙◌}
use mathlib.Core.Logic.{◌≢◌}
use mathlib.Core.List.{List, [], ◌∷◌, ◌++◌}
use lib.Dec.{eqb-suc-zero}
use lib.ListN.{length, take, drop, get_or, length-drop}
use lib.Seq.{split_at, get_or-drop, drop-cons}
use native.Mathlib.Omega.{arith}
use borrow.Author.Tests.{ne_eqb}
use Rattle.model.specs.Arena.{key_column, next_column, to_column, far_column, first_slot}
use Rattle.model.specs.Cells.{cell_at, link_at}
use Rattle.model.specs.Links.{distance, target, link_of}
use Rattle.model.specs.Nodes.{Node, node, N, at, key_at, slot_at, height_at}
use Rattle.model.specs.Passes.{decode, nodes, Passes}
use Rattle.model.specs.StoredWalks.{Footing, footing, along_stored, descend_stored, next_stored, key_walk_stored}
use Rattle.model.specs.StoredWalks.{along_ranks_stored, descend_ranks_stored, next_ranks_stored, rank_walk_stored, footing_at}
use Rattle.model.specs.Walks.{Stand, stand, along, descend, by_next, key_walk, along_ranks, descend_ranks, next_ranks, rank_walk}
use Rattle.model.proofs.Clauses.{passes-clauses, head_cell, node-cell}
use Rattle.model.proofs.Columns.{lists_are}
use Rattle.model.proofs.Records.{slot_of}
use Rattle.model.proofs.Steps.{target_at, target_none, distance-tall}
use Rattle.model.proofs.Tests.{hit, miss, test, same, other, same?}

module _ (w : List ℕ) (p : Passes w) (a : ℕ) (la : a < length (decode w).lists) where
  abbrev M : ℕ
  M = (decode w).levels

  abbrev xs : List Node
  xs = nodes w a

  in_words : a < get_or w 2 0
  in_words = omega (arith, lists_are w)

  cut : (i : ℕ) → i < length xs → xs ≡ take i xs ++ at xs i ∷ drop (suc i) xs
  cut i l = split_at xs i (node N 0 0) l

  -- ---- the stored columns of the owner at a rank ----
  own_link : (r l : ℕ) → r ≤ length xs → l < M → suc l ≤ height_at M xs r → link_at M w (slot_at a xs r) l ≡ link_of (suc l) (drop r xs)
  own_link zero l k lm t = ((passes-clauses w p).head_links a in_words l lm).link
  own_link (suc i) l k lm t = ((passes-clauses w p).links_of_nodes a (take i xs) (at xs i) (drop (suc i) xs) in_words (cut i k) l lm t).link

  own-next : (r : ℕ) → r ≤ length xs → cell_at M w (slot_at a xs r) next_column ≡ first_slot (drop r xs)
  own-next zero k = head_cell w p a in_words next_column (omega arith)
  own-next (suc i) k = node-cell w p a (take i xs) (at xs i) (drop (suc i) xs) in_words (cut i k) next_column (omega arith)

  own_key : (i : ℕ) → i < length xs → cell_at M w (at xs i).slot key_column ≡ key_at xs i
  own_key i k = node-cell w p a (take i xs) (at xs i) (drop (suc i) xs) in_words (cut i k) key_column (omega arith)

  own-slot : (i : ℕ) → i < length xs → (at xs i).slot ≢ N
  own-slot i k e = omega (arith, (slot_of (decode w) p.sound a (take i xs) (at xs i) (drop (suc i) xs) (cut i k)).1, p.sizes, e)

  -- where a present link of stage h leads: the owner d + 1 ranks on
  record LeadsOn (h r d : ℕ) : Type 0 where
    inside : r + suc d ≤ length xs
    to : target h (drop r xs) ≡ slot_at a xs (r + suc d)
    some : slot_at a xs (r + suc d) ≢ N
    key : cell_at M w (slot_at a xs (r + suc d)) key_column ≡ key_at xs (r + suc d - 1)
    tall : h ≤ height_at M xs (r + suc d)

  leads : (h r d : ℕ) → r ≤ length xs → distance h (drop r xs) ≡ suc d → LeadsOn h r d
  leads h r d k f =
      let e : r + suc d ≡ suc (r + d) = omega arith in
      let e' : r + suc d - 1 ≡ r + d = omega arith in
      let g = distance-tall h (drop r xs) d f in
      let b = get_or-drop r xs d (node N 0 0) in
      let i : r + d < length xs = omega (arith, g.0, length-drop r xs) in
      record {
        inside = omega arith;
        to = rw e (target_at h (drop r xs) d f ∙ ap (λ (y : Node). y.slot) b);
        some = rw e (own-slot (r + d) i);
        key = rw (e', e) (own_key (r + d) i);
        tall = rw e (rw b at g.1);
      }

  -- ---- along a level ----
  abbrev footing_of : Stand → Footing
  footing_of s = footing (slot_at a xs s.rank) s.rank s.tally

  record SameFooting (l : ℕ) (u : Footing) (s : Stand) : Type 0 where
    same : u ≡ footing_of s
    inside : s.rank ≤ length xs
    tall : l ≤ height_at M xs s.rank

  along-same : (n l t r k : ℕ) → l < M → r ≤ length xs → suc l ≤ height_at M xs r → SameFooting (suc l) (along_stored n l M w t (footing_of (stand r k))) (along n l t xs (stand r k))
  along-same zero l t r k lm i u = record { same = refl; inside = i; tall = u }
  along-same (suc n) l t r k lm i u = by (distance (suc l) (drop r xs)) refl (λ d. along-same n l t (r + d) (k + 1) lm)
    where
      to : cell_at M w (slot_at a xs r) (to_column l) ≡ target (suc l) (drop r xs)
      to = ap (λ (k : List ℕ). get_or k 0 0) (own_link r l i lm u)

      far : cell_at M w (slot_at a xs r) (far_column l) ≡ distance (suc l) (drop r xs)
      far = ap (λ (k : List ℕ). get_or k 1 0) (own_link r l i lm u)

      by : (d : ℕ) → distance (suc l) (drop r xs) ≡ d
          → ((d : ℕ) → r + d ≤ length xs → suc l ≤ height_at M xs (r + d)
          → SameFooting (suc l) (along_stored n l M w t (footing_of (stand (r + d) (k + 1)))) (along n l t xs (stand (r + d) (k + 1))))
          → SameFooting (suc l) (along_stored (suc n) l M w t (footing_of (stand r k))) (along (suc n) l t xs (stand r k))
      by zero f on = rw (to ∙ target_none (suc l) (drop r xs) f, f) (record { same = refl; inside = i; tall = u })
      by (suc d) f on =
          let g = leads (suc l) r d i f in
          let ne = ne_eqb (slot_at a xs (r + suc d)) N g.some in
          elim (test (suc (key_at xs (r + suc d - 1))) t) [
            | hit q j ↦ rw (to ∙ g.to, far, f, eqb-suc-zero d, ne, g.key, q) (on (suc d) g.inside g.tall)
            | miss q j ↦ rw (to ∙ g.to, far, f, eqb-suc-zero d, ne, g.key, q) (record { same = refl; inside = i; tall = u })
          ]

  -- ---- down the levels ----
  descend-same : (l t : ℕ) (s : Stand) → l ≤ M → s.rank ≤ length xs → l ≤ height_at M xs s.rank
      → SameFooting 0 (descend_stored l (length xs) M w t (footing_of s)) (descend l t xs s)
  descend-same zero t s lm i u = record { same = refl; inside = i; tall = omega arith }
  descend-same (suc l) t s lm i u =
      let g = along-same (length xs) l t s.rank s.tally lm i u in
      rw g.same (descend-same l t (along (length xs) l t xs s) (omega arith) g.inside (omega (arith, g.tall)))

  -- ---- by next ----
  nothing_left : (r : ℕ) → length xs ≤ r → drop r xs ≡ []
  nothing_left r l = none (drop r xs) (omega (arith, length-drop r xs))
    where
      none : (ys : List Node) → length ys ≡ 0 → ys ≡ []
      none [] e = refl
      none (y ∷ ys) e = absurd (omega arith)

  -- next leads to the node of the next rank
  record Next (r : ℕ) : Type 0 where
    rest : drop r xs ≡ at xs r ∷ drop (r + 1) xs
    to : cell_at M w (slot_at a xs r) next_column ≡ slot_at a xs (r + 1)
    some : slot_at a xs (r + 1) ≢ N
    key : cell_at M w (slot_at a xs (r + 1)) key_column ≡ key_at xs r

  next_one : (r : ℕ) → r < length xs → Next r
  next_one r l =
      let e : r + 1 ≡ suc r = omega arith in
      let q = drop-cons xs r (node N 0 0) l in
      record { rest = rw e q; to = rw e (own-next r (omega arith) ∙ ap first_slot q); some = rw e (own-slot r l); key = rw e (own_key r l) }

  next-same : (n t r k : ℕ) → r ≤ length xs → length xs ≤ r + n → next_stored n M w t (footing_of (stand r k)) ≡ by_next t (stand r k) (drop r xs)
  next-same zero t r k i j = rw (nothing_left r (omega arith)) refl
  next-same (suc n) t r k i j = elim (test (suc r) (length xs)) [
    | miss e p ↦
        let q = nothing_left r (omega arith) in
        rw (own-next r i ∙ ap first_slot q, q) refl
    | hit e p ↦
        let g = next_one r p in
        let ne = ne_eqb (slot_at a xs (r + 1)) N g.some in
        elim (test (suc (key_at xs r)) t) [
          | hit f _ ↦ rw (g.to, ne, g.key, g.rest, f) (next-same n t (r + 1) (k + 1) (omega arith) (omega arith))
          | miss f _ ↦ rw (g.to, ne, g.key, g.rest, f) refl
        ]
  ]

  -- the head's first word is the length
  count : cell_at M w a 0 ≡ length xs
  count = head_cell w p a in_words 0 (omega arith)

  -- "The tally equals the walk's over the stored links": the walk that reads the words, and the walk over the model.
  pub key_walk_stored_lem : (t : ℕ) → key_walk_stored M w a t ≡ key_walk M t xs
  key_walk_stored_lem t =
      let g = descend-same M t (stand 0 0) (omega arith) (omega arith) (omega arith) in
      let s = descend M t xs (stand 0 0) in
      rw (count, g.same) (next-same (length xs) t s.rank s.tally g.inside (omega arith))

  -- ---- by rank ----
  along_ranks_same : (n l t r : ℕ) → l < M → r ≤ length xs → suc l ≤ height_at M xs r
      → SameFooting (suc l) (along_ranks_stored n l M w t (footing_of (stand r 0))) (stand (along_ranks n l t xs r) 0)
  along_ranks_same zero l t r lm i u = record { same = refl; inside = i; tall = u }
  along_ranks_same (suc n) l t r lm i u = by (distance (suc l) (drop r xs)) refl (λ d. along_ranks_same n l t (r + d) lm)
    where
      to : cell_at M w (slot_at a xs r) (to_column l) ≡ target (suc l) (drop r xs)
      to = ap (λ (k : List ℕ). get_or k 0 0) (own_link r l i lm u)

      far : cell_at M w (slot_at a xs r) (far_column l) ≡ distance (suc l) (drop r xs)
      far = ap (λ (k : List ℕ). get_or k 1 0) (own_link r l i lm u)

      by : (d : ℕ) → distance (suc l) (drop r xs) ≡ d
          → ((d : ℕ) → r + d ≤ length xs → suc l ≤ height_at M xs (r + d)
          → SameFooting (suc l) (along_ranks_stored n l M w t (footing_of (stand (r + d) 0))) (stand (along_ranks n l t xs (r + d)) 0))
          → SameFooting (suc l) (along_ranks_stored (suc n) l M w t (footing_of (stand r 0))) (stand (along_ranks (suc n) l t xs r) 0)
      by zero f on = rw (to ∙ target_none (suc l) (drop r xs) f, f) (record { same = refl; inside = i; tall = u })
      by (suc d) f on =
          let g = leads (suc l) r d i f in
          let ne = ne_eqb (slot_at a xs (r + suc d)) N g.some in
          elim (test (suc (r + suc d)) t) [
            | hit q j ↦ rw (to ∙ g.to, far, f, eqb-suc-zero d, ne, q) (on (suc d) g.inside g.tall)
            | miss q j ↦ rw (to ∙ g.to, far, f, eqb-suc-zero d, ne, q) (record { same = refl; inside = i; tall = u })
          ]

  descend_ranks_same : (l t r : ℕ) → l ≤ M → r ≤ length xs → l ≤ height_at M xs r
      → SameFooting 0 (descend_ranks_stored l (length xs) M w t (footing_of (stand r 0))) (stand (descend_ranks l t xs r) 0)
  descend_ranks_same zero t r lm i u = record { same = refl; inside = i; tall = omega arith }
  descend_ranks_same (suc l) t r lm i u =
      let g = along_ranks_same (length xs) l t r lm i u in
      rw g.same (descend_ranks_same l t (along_ranks (length xs) l t xs r) (omega arith) g.inside (omega (arith, g.tall)))

  next_ranks_same : (n t r : ℕ) → r ≤ length xs → length xs ≤ r + n → next_ranks_stored n M w t (footing_of (stand r 0)) ≡ footing_at a xs (next_ranks t r (drop r xs))
  next_ranks_same zero t r i j = elim (same? r t) [
    | same e _ ↦ rw (nothing_left r (omega arith), e) refl
    | other e _ ↦ rw (nothing_left r (omega arith), e) refl
  ]
  next_ranks_same (suc n) t r i j = elim (test (suc r) (length xs)) [
    | miss _ p ↦
        let q = nothing_left r (omega arith) in
        elim (same? r t) [ same e _ ↦ rw (q, e) refl | other e _ ↦ rw (own-next r i ∙ ap first_slot q, q, e) refl ]
    | hit _ p ↦
        let g = next_one r p in
        let ne = ne_eqb (slot_at a xs (r + 1)) N g.some in
        let one : r + 1 ≡ suc r = omega arith in
        elim (same? r t) [
          | same e _ ↦ rw (g.rest, e) refl
          | other e _ ↦ rw (g.to, ne, g.rest, e, one) (next_ranks_same n t (suc r) (omega arith) (omega arith))
        ]
  ]

  pub rank_walk_stored_lem : (t : ℕ) → rank_walk_stored M w a t ≡ footing_at a xs (rank_walk M t xs)
  rank_walk_stored_lem t =
      let g = descend_ranks_same M t 0 (omega arith) (omega arith) (omega arith) in
      rw (count, g.same) (next_ranks_same (length xs) t (descend_ranks M t xs 0) g.inside (omega arith))
