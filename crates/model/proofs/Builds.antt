-- Words whose header, heads, nodes and free slots read as a sound model's are that model's words; and what a store does to the records.
-- Rests on Records.
use Prim.Native.Nat.{ℕ, zero, suc, ◌+◌, ◌*◌, ◌≤◌, ◌<◌}
use mathlib.Core.Path.{◌≡◌, refl, sym, ap, ap₂, ◌∙◌, subst}
use mathlib.Core.List.{List, [], ◌∷◌, ◌++◌}
use lib.ListN.{length, take, drop, get_or, take-append-drop, length-drop}
use lib.Seq.{drop-drop}
use native.Mathlib.Nat.{zero-mul, add-zero, zero-add}
use native.Mathlib.Omega.{arith}
use Rattle.model.specs.Arena.{width, State, node_words, head_words, free_words, record_of, records, header, encode, list_of}
use Rattle.model.specs.Cells.{record_at}
use Rattle.model.specs.Nodes.{Node}
use Rattle.model.specs.Passes.{times, times_all, times_free, Sound, Sizes, Passes}
use Rattle.model.proofs.Records.{rec_encode, record_node, record_free, decode-encode}
use Rattle.model.proofs.Tests.{same, other, same?, hit, miss, test}

pub recs_build : (W : ℕ) (f : ℕ → List ℕ) (s n : ℕ) (u : List ℕ) → length u ≡ n * W → ((j : ℕ) → j < n → take W (drop (j * W) u) ≡ f (s + j)) → u ≡ records f s n
recs_build W f s zero [] l h = refl
recs_build W f s zero (x ∷ u) l h = absurd (omega (arith, l, zero-mul W))
recs_build W f s (suc n) u l h =
    sym (take-append-drop W u)
    ∙ ap₂ (λ (x y : List ℕ). x ++ y)
    (rw (zero-mul W, add-zero s) at (h 0 (omega arith)))
    (recs_build W f (suc s) n (drop W u) (omega (arith, length-drop W u))
    (λ j k.
    let e : W + j * W ≡ suc j * W = omega arith in
    let q : s + suc j ≡ suc s + j = omega arith in
    rw (drop-drop (j * W) W u, e) (rw q at (h (suc j) (omega arith)))))

-- a slot that stands in a list, or on the free chain, stands at a place
pub in_list : (s : ℕ) (xs : List Node) → 1 ≤ times s xs → (aa : List Node) × (y : Node) × (ys : List Node) × (xs ≡ aa ++ y ∷ ys) × (y.slot ≡ s)
in_list s [] l = absurd (omega arith)
in_list s (x ∷ xs) l = elim (same? x.slot s) [
  | same e p ↦ ([], x, xs, refl, p)
  | other e p ↦ let i = in_list s xs (rw e at l) in (x ∷ i.0, i.1, i.2, ap (λ (t : List Node). x ∷ t) i.3, i.4)
]

pub in_lists_lem : (s : ℕ) (xss : List (List Node)) → 1 ≤ times_all s xss → (a : ℕ) × (a < length xss) × (1 ≤ times s (get_or xss a []))
in_lists_lem s [] l = absurd (omega arith)
in_lists_lem s (xs ∷ xss) l = elim (test 1 (times s xs)) [
  | hit e p ↦ (0, omega arith, p)
  | miss e p ↦ let i = in_lists_lem s xss (omega arith) in (suc i.0, omega (arith, i.1), i.2)
]

pub in_free_lem : (s : ℕ) (fs : List ℕ) → 1 ≤ times_free s fs → (gs : List ℕ) × (hs : List ℕ) × (fs ≡ gs ++ s ∷ hs)
in_free_lem s [] l = absurd (omega arith)
in_free_lem s (f ∷ fs) l = elim (same? f s) [
  | same e p ↦ ([], fs, ap (λ (k : ℕ). k ∷ fs) p)
  | other e p ↦ let i = in_free_lem s fs (rw e at l) in (f ∷ i.0, i.1, ap (λ (t : List ℕ). f ∷ t) i.2)
]

pub record Reads-as (S : State) (w : List ℕ) : Type 0 where
  pub size : length w ≡ 8 + (length S.lists + S.room) * (width S.levels)
  pub front : take 8 w ≡ header S
  pub heads : (a : ℕ) → a < length S.lists → record_at S.levels w a ≡ head_words S.levels (list_of S a)
  pub in_a_list : (a : ℕ) (aa : List Node) (y : Node) (ys : List Node) → a < length S.lists → list_of S a ≡ aa ++ y ∷ ys
      → record_at S.levels w y.slot ≡ node_words S.levels y ys
  pub on_free : (gs : List ℕ) (f : ℕ) (fs : List ℕ) → S.free ≡ gs ++ f ∷ fs → record_at S.levels w f ≡ free_words S.levels fs

records_are : (S : State) → Sound S → (w : List ℕ) → Reads-as S w → (s : ℕ) → s < length S.lists + S.room → record_at S.levels w s ≡ record_of S s
records_are S v w r s l = elim (test (suc s) (length S.lists)) [
  | hit e p ↦ r.heads s p ∙ (rw e refl)
  | miss e p ↦ elim (test 1 (times_all s S.lists)) [
    | hit f q ↦
        let i = in_lists_lem s S.lists q in
        let j = in_list s (list_of S i.0) i.2 in
        let k = j.4 in
        let x = r.in_a_list i.0 j.0 j.1 j.2 i.1 j.3 ∙ sym (record_node S v i.0 j.0 j.1 j.2 i.1 j.3) in
        subst (λ (z : ℕ). record_at S.levels w z ≡ record_at S.levels (encode S) z) k x ∙ rec_encode S s l
    | miss f q ↦
        let i = in_free_lem s S.free (omega (arith, v.once s (omega arith) l)) in
        r.on_free i.0 s i.1 i.2 ∙ sym (record_free S v i.0 s i.1 i.2) ∙ rec_encode S s l
  ]
]

pub words_are : (S : State) → Sound S → (w : List ℕ) → Reads-as S w → w ≡ encode S
words_are S v w r =
    let W = width S.levels in
    sym (take-append-drop 8 w)
    ∙ ap₂ (λ (x y : List ℕ). x ++ y) r.front
    (recs_build W (record_of S) 0 (length S.lists + S.room) (drop 8 w) (omega (arith, length-drop 8 w, r.size))
    (λ j k. rw (drop-drop (j * W) 8 w, zero-add j) (records_are S v w r j k)))

-- the words of a sound state pass
pub passes-encode : (S : State) → Sound S → Sizes S → Passes (encode S)
passes-encode S v z =
    let e = sym (decode-encode S v) in
    record { words = ap encode e; sound = subst Sound e v; sizes = subst Sizes e z }
