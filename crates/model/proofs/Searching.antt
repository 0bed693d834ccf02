-- The walk by key in closed form: `key_walk` of specs/Walks ends where `ends` says, with the tally that `tally` counts.
-- Rests on Steps (one look at a link).
use Prim.Native.Nat.{ℕ, zero, suc, ◌+◌, ◌-◌, ◌≤◌, ◌<◌}
use mathlib.Core.Path.{◌≡◌, refl, sym, ap, ap₂, ◌∙◌}
use mathlib.Core.Bool.{Bool, true, false, cond}
use mathlib.Core.List.{List, [], ◌∷◌}
use lib.Dec.{ltb, eqb, eqb-suc-zero}
use lib.ListN.{length, drop, get_or, length-drop}
use lib.Seq.{drop-drop, get_or-drop}
use native.Mathlib.Nat.{zero-add, suc-sub-suc}
use native.Mathlib.Omega.{arith}
use borrow.Author.Tests.{le-leb, le-ltb}
use Rattle.model.specs.Closed.{go, asks, ends, tally, stops, key_is}
use Rattle.model.specs.Links.{distance}
use Rattle.model.specs.Nodes.{Node, node, N, key_at, at, smaller, smaller_keys, Above, Sorted}
use Rattle.model.specs.Walks.{Stand, stand, along, descend, precursors, End, found, missing, ended, is_found, place_of, by_next, key_walk}
use Rattle.model.proofs.Steps.{absent_step, smaller_step, other_step}
use Rattle.model.proofs.Tests.{hit, miss, test}
use Rattle.model.proofs.Walk.{above_trans}

-- ---- along one level ----
none_left : (h t : ℕ) (ys : List Node) → length ys ≤ 0 → (go h t ys ≡ 0) × (asks h t ys ≡ 0)
none_left h t [] l = (refl, refl)
none_left h t (y ∷ ys) l = absurd (omega arith)

-- the key that a link of distance d + 1 leads to
key_ahead : (xs : List Node) (r d : ℕ) → key_at xs (r + suc d - 1) ≡ (at (drop r xs) d).key
key_ahead xs r d =
    let e : r + suc d - 1 ≡ r + d = omega arith in
    ap (λ (i : ℕ). key_at xs i) e ∙ sym (ap (λ (y : Node). y.key) (get_or-drop r xs d (node N 0 0)))

same-stand : {r r' m m' : ℕ} → r ≡ r' → m ≡ m' → stand r m ≡ stand r' m'
same-stand p q = ap₂ stand p q

-- one look at the link of level l, of distance d
abbrev looked : ℕ → ℕ → ℕ → List Node → ℕ → ℕ → ℕ → Stand
looked n l t xs r m d =
    cond (eqb d 0) (stand r m) (cond (ltb (key_at xs (r + d - 1)) t) (along n l t xs (stand (r + d) (m + 1))) (stand r (m + 1)))

pub along-is : (n l t : ℕ) (xs : List Node) (r m : ℕ) → length (drop r xs) ≤ n
    → along n l t xs (stand r m) ≡ stand (r + go (suc l) t (drop r xs)) (m + asks (suc l) t (drop r xs))
along-is zero l t xs r m k = let z = none_left (suc l) t (drop r xs) k in same-stand (omega arith) (omega arith)
along-is (suc n) l t xs r m k = look (distance (suc l) (drop r xs)) refl (λ d. along-is n l t xs (r + d) (m + 1))
  where
    look : (d : ℕ) → distance (suc l) (drop r xs) ≡ d
        → ((e : ℕ) → length (drop (r + e) xs) ≤ n
        → along n l t xs (stand (r + e) (m + 1)) ≡ stand (r + e + go (suc l) t (drop (r + e) xs)) (m + 1 + asks (suc l) t (drop (r + e) xs)))
        → along (suc n) l t xs (stand r m) ≡ stand (r + go (suc l) t (drop r xs)) (m + asks (suc l) t (drop r xs))
    look zero e ih =
        let z = absent_step (suc l) t (drop r xs) e in
        ap (looked n l t xs r m) e ∙ same-stand (omega arith) (omega arith)
    look (suc d) e ih = elim (test (suc (at (drop r xs) d).key) t) [
      | hit f p ↦
          let z = smaller_step (suc l) t (drop r xs) d e p in
          let q = drop-drop (suc d) r xs in
          let len : length (drop (r + suc d) xs) ≤ n = omega (arith, length-drop r xs, length-drop (r + suc d) xs) in
          let a : looked n l t xs r m (suc d) ≡ along n l t xs (stand (r + suc d) (m + 1)) = rw (eqb-suc-zero d, key_ahead xs r d, f) refl in
          ap (looked n l t xs r m) e ∙ a ∙ ih (suc d) len
          ∙ same-stand (omega (arith, z.gone, ap (go (suc l) t) q)) (omega (arith, z.asked, ap (asks (suc l) t) q))
      | miss f p ↦
          let z = other_step (suc l) t (drop r xs) d e (omega arith) in
          ap (looked n l t xs r m) e ∙ (rw (eqb-suc-zero d, key_ahead xs r d, f) (same-stand (omega arith) (omega arith)))
    ]

-- ---- by next ----
-- the walk's end at rank r, where b says whether the key is met there
abbrev pub end_at : Bool → ℕ → ℕ → End
end_at b r n = cond b (found (stand (suc r) n)) (missing (stand r n))

pub by-next-is : (t r m : ℕ) (ys : List Node) → by_next t (stand r m) ys ≡ end_at (key_is t (drop (go 0 t ys) ys)) (r + go 0 t ys) (m + asks 0 t ys)
by-next-is t r m [] = ap missing (same-stand (omega arith) (omega arith))
by-next-is t r m (y ∷ ys) = elim (test (suc y.key) t) [
  | hit e p ↦ rw (le-leb 0 y.height (omega arith), e) (by-next-is t (r + 1) (m + 1) ys ∙ ap₂ (end_at (key_is t (drop (go 0 t ys) ys))) (omega arith) (omega arith))
  | miss e p ↦ rw (le-leb 0 y.height (omega arith), e) (stop (eqb y.key t))
]
  where
    stop : (b : Bool) → cond b (found (stand (r + 1) (m + 1))) (missing (stand r (m + 1))) ≡ end_at b (r + 0) (m + 1)
    stop true = ap found (same-stand (omega arith) refl)
    stop false = ap missing (same-stand (omega arith) refl)

-- ---- the walk from any rank on, and the whole walk ----
pub walk_is : (h t : ℕ) (xs : List Node) (r m : ℕ) → by_next t (descend h t xs (stand r m)) (drop (descend h t xs (stand r m)).rank xs)
    ≡ end_at (key_is t (drop (r + ends h t (drop r xs)) xs)) (r + ends h t (drop r xs)) (m + tally h t (drop r xs))
walk_is zero t xs r m = by-next-is t r m (drop r xs) ∙ (rw (drop-drop (go 0 t (drop r xs)) r xs) refl)
walk_is (suc h) t xs r m =
    let d = go (suc h) t (drop r xs) in
    let n = asks (suc h) t (drop r xs) in
    let zs = drop d (drop r xs) in
    let q = drop-drop d r xs in
    let e : r + d + ends h t (drop (r + d) xs) ≡ r + (d + ends h t zs) = omega (arith, ap (ends h t) q) in
    let f : m + n + tally h t (drop (r + d) xs) ≡ m + (n + tally h t zs) = omega (arith, ap (tally h t) q) in
    ap (λ (s : Stand). by_next t (descend h t xs s) (drop (descend h t xs s).rank xs)) (along-is (length xs) h t xs r m (omega (arith, length-drop r xs)))
    ∙ walk_is h t xs (r + d) (m + n) ∙ ap₂ (λ (p k : ℕ). end_at (key_is t (drop p xs)) p k) e f

key_walk_is : (M t : ℕ) (xs : List Node)
    → key_walk M t xs ≡ cond (key_is t (drop (ends M t xs) xs)) (found (stand (suc (ends M t xs)) (tally M t xs))) (missing (stand (ends M t xs) (tally M t xs)))
key_walk_is M t xs = walk_is M t xs 0 0 ∙ ap₂ (λ (p k : ℕ). end_at (key_is t (drop p xs)) p k) (zero-add (ends M t xs)) (zero-add (tally M t xs))

-- ---- what it answers ----
found-end : (b : Bool) (r n : ℕ) → is_found (end_at b r n) ≡ b
found-end true r n = refl
found-end false r n = refl

place_end : (b : Bool) (r n : ℕ) → place_of (end_at b r n) ≡ r
place_end true r n = omega arith
place_end false r n = refl

tally-end : (b : Bool) (r n : ℕ) → (ended (end_at b r n)).tally ≡ n
tally-end true r n = refl
tally-end false r n = refl

module _ (M t : ℕ) (xs : List Node) where
  pub walk_found : is_found (key_walk M t xs) ≡ key_is t (drop (ends M t xs) xs)
  walk_found = ap is_found (key_walk_is M t xs) ∙ found-end (key_is t (drop (ends M t xs) xs)) (ends M t xs) (tally M t xs)

  pub walk_place : place_of (key_walk M t xs) ≡ ends M t xs
  walk_place = ap place_of (key_walk_is M t xs) ∙ place_end (key_is t (drop (ends M t xs) xs)) (ends M t xs) (tally M t xs)

  pub walk_tally : (ended (key_walk M t xs)).tally ≡ tally M t xs
  walk_tally = ap (λ (e : End). (ended e).tally) (key_walk_is M t xs) ∙ tally-end (key_is t (drop (ends M t xs) xs)) (ends M t xs) (tally M t xs)

-- the precursor of level l, from the highest down
pub precursor_stop : (M t : ℕ) (xs : List Node) (r m l : ℕ) → l < M
    → (get_or (precursors M t xs (stand r m)) (M - suc l) (stand 0 0)).rank ≡ get_or (stops M t r (drop r xs)) (M - suc l) 0
precursor_stop zero t xs r m l k = absurd (omega arith)
precursor_stop (suc M) t xs r m l k =
    let d = go (suc M) t (drop r xs) in
    let a = along-is (length xs) M t xs r m (omega (arith, length-drop r xs)) in
    elim (test M l) [
      | hit e p ↦
          let z : M - l ≡ 0 = omega arith in
          rw (suc-sub-suc, z) (ap (λ (s : Stand). s.rank) a)
      | miss e p ↦
          let z : M - l ≡ suc (M - suc l) = omega arith in
          rw (suc-sub-suc, z) (ap (λ (s : Stand). (get_or (precursors M t xs s) (M - suc l) (stand 0 0)).rank) a
          ∙ precursor_stop M t xs (r + d) (m + asks (suc M) t (drop r xs)) l p
          ∙ ap (λ (ys : List Node). get_or (stops M t (r + d) ys) (M - suc l) 0) (sym (drop-drop d r xs)))
    ]

-- "the number of smaller keys": on a list whose keys never fall, those before the first that is not smaller
none-smaller : (t : ℕ) (ys : List Node) → Above t ys → smaller_keys t ys ≡ 0
none-smaller t [] q = refl
none-smaller t (y ∷ ys) q = rw (le-ltb y.key t q.0) (none-smaller t ys q.1)

pub smaller-all : (t : ℕ) (xs : List Node) → Sorted xs → smaller t xs ≡ smaller_keys t xs
smaller-all t [] s = refl
smaller-all t (y ∷ ys) s = elim (test (suc y.key) t) [
  | hit e p ↦ rw e (ap suc (smaller-all t ys s.1))
  | miss e p ↦ rw e (sym (none-smaller t ys (above_trans (omega arith) ys s.0)))
]
