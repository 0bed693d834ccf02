-- The words of a sound model: the record of each slot, and that they read back as that model. Rests on specs/Arena and specs/Passes.
use Prim.Native.Nat.{ℕ, zero, suc, ◌+◌, ◌*◌, ◌≤◌, ◌<◌}
use mathlib.Core.Path.{◌≡◌, refl, sym, ap, ap₂, ◌∙◌}
use mathlib.Core.List.{List, [], ◌∷◌, ◌++◌}
use lib.ListN.{length, take, drop, get_or, length-append}
use lib.Seq.{take_at, get_or_at, drop-append-add, append_snoc}
use native.Mathlib.Nat.{zero-add, add-zero, suc-add, add-suc, not-suc-le-zero, zero-mul}
use native.Mathlib.Omega.{arith}
use borrow.Author.Tests.{lt-ltb, le-ltb, eq-eqb}
use Rattle.model.specs.Arena.{width, State, node_links, node_words, head_words, free_words, absent_links, first_slot}
use Rattle.model.specs.Arena.{first_free, in_list, in_lists, in_free, record_of, records, header, encode}
use Rattle.model.specs.Cells.{record_at}
use Rattle.model.specs.Links.{link_words}
use Rattle.model.specs.Nodes.{Node}
use Rattle.model.specs.Passes.{chain, free_chain, lists_from, decode, times, times_all, times_free, Sound}
use Rattle.model.proofs.Tests.{same, other, same?, hit, miss, test}

-- every record has its length
pub length_links : (l n ht : ℕ) (ys : List Node) → length (node_links l n ht ys) ≡ link_words * n
length_links l zero ht ys = refl
length_links l (suc n) ht ys = elim (test (suc l) ht) [
  | hit e p ↦ rw e (omega (arith, length_links (suc l) n ht ys))
  | miss e p ↦ rw e (omega (arith, length_links (suc l) n ht ys))
]

pub length-absent : (n : ℕ) → length (absent_links n) ≡ link_words * n
length-absent zero = refl
length-absent (suc n) = omega (arith, length-absent n)

length-in_free : (M s : ℕ) (fs : List ℕ) → length (in_free M s fs) ≡ width M
length-in_free M s [] = omega (arith, length-absent M)
length-in_free M s (f ∷ fs) = elim (same? f s) [ same e p ↦ rw e (omega (arith, length-absent M)) | other e p ↦ rw e (length-in_free M s fs) ]

length-in_list : (M s : ℕ) (ys : List Node) (o : List ℕ) → length o ≡ width M → length (in_list M s ys o) ≡ width M
length-in_list M s [] o l = l
length-in_list M s (y ∷ ys) o l = elim (same? y.slot s) [
  | same e p ↦ rw e (omega (arith, length_links 0 M y.height ys))
  | other e p ↦ rw e (length-in_list M s ys o l)
]

length-in_lists : (M s : ℕ) (xss : List (List Node)) (o : List ℕ) → length o ≡ width M → length (in_lists M s xss o) ≡ width M
length-in_lists M s [] o l = l
length-in_lists M s (xs ∷ xss) o l = length-in_list M s xs (in_lists M s xss o) (length-in_lists M s xss o l)

pub length_record : (S : State) (s : ℕ) → length (record_of S s) ≡ width S.levels
length_record S s = elim (test (suc s) (length S.lists)) [
  | hit e p ↦ rw e (omega (arith, length_links 0 S.levels S.levels (get_or S.lists s [])))
  | miss e p ↦ rw e (length-in_lists S.levels s S.lists (in_free S.levels s S.free) (length-in_free S.levels s S.free))
]

-- record j of a row of records
recs_at : (W : ℕ) (f : ℕ → List ℕ) → ((s : ℕ) → length (f s) ≡ W) → (s n j : ℕ) → j < n → take W (drop (j * W) (records f s n)) ≡ f (s + j)
recs_at W f l s zero j k = absurd (not-suc-le-zero k)
recs_at W f l s (suc n) zero k = rw (zero-mul, add-zero) (take_at (f s) (records f (suc s) n) W (l s))
recs_at W f l s (suc n) (suc j) k =
    let e : suc j * W ≡ length (f s) + j * W = omega (arith, l s) in
    rw (e, drop-append-add, recs_at W f l (suc s) n j (omega arith), suc-add, add-suc) refl

pub head_words_lem : (S : State) (a : ℕ) → a < length S.lists → record_of S a ≡ head_words S.levels (get_or S.lists a [])
head_words_lem S a l = rw (lt-ltb a (length S.lists) l) refl

pub rec_encode : (S : State) (s : ℕ) → s < length S.lists + S.room → record_at S.levels (encode S) s ≡ record_of S s
rec_encode S s l =
    let W = width S.levels in
    ap (take W) (drop-append-add (header S) (records (record_of S) 0 (length S.lists + S.room)) (s * W))
    ∙ recs_at W (record_of S) (length_record S) 0 (length S.lists + S.room) s l ∙ ap (record_of S) (zero-add s)

-- ---- the record of a slot that stands in a list ----
pub times_mid : (aa : List Node) (y : Node) (ys : List Node) → 1 ≤ times y.slot (aa ++ y ∷ ys)
times_mid [] y ys = rw (eq-eqb y.slot y.slot refl) (omega arith)
times_mid (a ∷ aa) y ys = elim (same? a.slot y.slot) [ same e p ↦ rw e (omega arith) | other e p ↦ rw e (times_mid aa y ys) ]

pub times_all_ge : (s : ℕ) (xss : List (List Node)) (a : ℕ) → times s (get_or xss a []) ≤ times_all s xss
times_all_ge s [] a = omega arith
times_all_ge s (xs ∷ xss) zero = omega arith
times_all_ge s (xs ∷ xss) (suc a) = omega (arith, times_all_ge s xss a)

in_list_miss : (M s : ℕ) (ys : List Node) (o : List ℕ) → times s ys ≡ 0 → in_list M s ys o ≡ o
in_list_miss M s [] o z = refl
in_list_miss M s (y ∷ ys) o z = elim (same? y.slot s) [
  | same e p ↦ absurd (omega (arith, rw e at z))
  | other e p ↦ rw e (in_list_miss M s ys o (rw e at z))
]

in_list_hit : (M : ℕ) (aa : List Node) (y : Node) (ys : List Node) (o : List ℕ) → times y.slot (aa ++ y ∷ ys) ≤ 1 → in_list M y.slot (aa ++ y ∷ ys) o ≡ node_words M y ys
in_list_hit M [] y ys o l = rw (eq-eqb y.slot y.slot refl) refl
in_list_hit M (a ∷ aa) y ys o l = elim (same? a.slot y.slot) [
  | same e p ↦ absurd (omega (arith, rw e at l, times_mid aa y ys))
  | other e p ↦ rw e (in_list_hit M aa y ys o (rw e at l))
]

in_lists_hit : (M : ℕ) (xss : List (List Node)) (a : ℕ) (aa : List Node) (y : Node) (ys : List Node) (o : List ℕ)
    → a < length xss → get_or xss a [] ≡ aa ++ y ∷ ys → times_all y.slot xss ≤ 1 → in_lists M y.slot xss o ≡ node_words M y ys
in_lists_hit M [] a aa y ys o l e z = absurd (not-suc-le-zero l)
in_lists_hit M (xs ∷ xss) zero aa y ys o l e z = rw e (in_list_hit M aa y ys (in_lists M y.slot xss o) (omega (arith, rw e at z)))
in_lists_hit M (xs ∷ xss) (suc a) aa y ys o l e z =
    let g = rw e at (times_all_ge y.slot xss a) in
    let m = times_mid aa y ys in
    rw (in_list_miss M y.slot xs (in_lists M y.slot xss o) (omega arith)) (in_lists_hit M xss a aa y ys o (omega arith) e (omega arith))

in_lists_miss : (M s : ℕ) (xss : List (List Node)) (o : List ℕ) → times_all s xss ≡ 0 → in_lists M s xss o ≡ o
in_lists_miss M s [] o z = refl
in_lists_miss M s (xs ∷ xss) o z = rw (in_list_miss M s xs (in_lists M s xss o) (omega arith)) (in_lists_miss M s xss o (omega arith))

pub free_mid : (gs : List ℕ) (f : ℕ) (fs : List ℕ) → 1 ≤ times_free f (gs ++ f ∷ fs)
free_mid [] f fs = rw (eq-eqb f f refl) (omega arith)
free_mid (g ∷ gs) f fs = elim (same? g f) [ same e p ↦ rw e (omega arith) | other e p ↦ rw e (free_mid gs f fs) ]

in_free_hit : (M : ℕ) (gs : List ℕ) (f : ℕ) (fs : List ℕ) → times_free f (gs ++ f ∷ fs) ≤ 1 → in_free M f (gs ++ f ∷ fs) ≡ free_words M fs
in_free_hit M [] f fs l = rw (eq-eqb f f refl) refl
in_free_hit M (g ∷ gs) f fs l = elim (same? g f) [
  | same e p ↦ absurd (omega (arith, rw e at l, free_mid gs f fs))
  | other e p ↦ rw e (in_free_hit M gs f fs (rw e at l))
]

module _ (S : State) (v : Sound S) where
  -- a slot that stands somewhere is a node slot, and stands there alone
  pub placed : (s : ℕ) → 1 ≤ times_all s S.lists + times_free s S.free
      → (length S.lists ≤ s) × (s < length S.lists + S.room) × (times_all s S.lists + times_free s S.free ≡ 1)
  placed s h = elim (test (suc s) (length S.lists)) [
    | hit e p ↦ absurd (omega (arith, v.no_head s p))
    | miss e p ↦ elim (test (suc s) (length S.lists + S.room)) [
      | hit f q ↦ (omega arith, q, v.once s (omega arith) q)
      | miss f q ↦ absurd (omega (arith, v.no_more s (omega arith)))
    ]
  ]

  pub slot_of : (a : ℕ) (aa : List Node) (y : Node) (ys : List Node) → get_or S.lists a [] ≡ aa ++ y ∷ ys
      → (length S.lists ≤ y.slot) × (y.slot < length S.lists + S.room) × (times_all y.slot S.lists + times_free y.slot S.free ≡ 1)
  slot_of a aa y ys e =
      let s = y.slot in
      let g = rw e at (times_all_ge s S.lists a) in
      let m = times_mid aa y ys in
      placed s (omega arith)

  pub node_words_lem : (a : ℕ) (aa : List Node) (y : Node) (ys : List Node) → a < length S.lists → get_or S.lists a [] ≡ aa ++ y ∷ ys
      → record_of S y.slot ≡ node_words S.levels y ys
  node_words_lem a aa y ys l e =
      let s = y.slot in
      let p = slot_of a aa y ys e in
      rw (le-ltb s (length S.lists) p.0)
      (in_lists_hit S.levels S.lists a aa y ys (in_free S.levels s S.free) l e (omega arith))

  pub record_node : (a : ℕ) (aa : List Node) (y : Node) (ys : List Node) → a < length S.lists → get_or S.lists a [] ≡ aa ++ y ∷ ys
      → record_at S.levels (encode S) y.slot ≡ node_words S.levels y ys
  record_node a aa y ys l e = rec_encode S y.slot (slot_of a aa y ys e).1 ∙ node_words_lem a aa y ys l e

  pub free_slot : (gs : List ℕ) (f : ℕ) (fs : List ℕ) → S.free ≡ gs ++ f ∷ fs
      → (length S.lists ≤ f) × (f < length S.lists + S.room) × (times_all f S.lists + times_free f S.free ≡ 1)
  free_slot gs f fs e =
      let m = free_mid gs f fs in
      let g = rw (← e) at m in
      placed f (omega arith)

  pub free_words_lem : (gs : List ℕ) (f : ℕ) (fs : List ℕ) → S.free ≡ gs ++ f ∷ fs → record_of S f ≡ free_words S.levels fs
  free_words_lem gs f fs e =
      let m = free_mid gs f fs in
      let g = rw (← e) at m in
      let p = free_slot gs f fs e in
      rw (le-ltb f (length S.lists) p.0, in_lists_miss S.levels f S.lists (in_free S.levels f S.free) (omega arith), e)
      (in_free_hit S.levels gs f fs (omega (arith, rw e at p.2)))

  pub record_free : (gs : List ℕ) (f : ℕ) (fs : List ℕ) → S.free ≡ gs ++ f ∷ fs → record_at S.levels (encode S) f ≡ free_words S.levels fs
  record_free gs f fs e = rec_encode S f (free_slot gs f fs e).1 ∙ free_words_lem gs f fs e

  chain_back : (a : ℕ) (aa ys : List Node) → a < length S.lists → get_or S.lists a [] ≡ aa ++ ys → chain S.levels (encode S) (length ys) (first_slot ys) ≡ ys
  chain_back a aa [] l e = refl
  chain_back a aa (y ∷ ys) l e =
      rw (record_node a aa y ys l e) (ap (λ (t : List Node). y ∷ t) (chain_back a (aa ++ y ∷ []) ys l (e ∙ sym (append_snoc aa y ys))))

  free_back : (gs fs : List ℕ) → S.free ≡ gs ++ fs → free_chain S.levels (encode S) (length fs) (first_free fs) ≡ fs
  free_back gs [] e = refl
  free_back gs (f ∷ fs) e = rw (record_free gs f fs e) (ap (λ (t : List ℕ). f ∷ t) (free_back (gs ++ f ∷ []) fs (e ∙ sym (append_snoc gs f fs))))

  lists_back : (a : ℕ) (xss yss : List (List Node)) → length xss ≡ a → S.lists ≡ xss ++ yss → lists_from S.levels (encode S) a (length yss) ≡ yss
  lists_back a xss [] l e = refl
  lists_back a xss (ys ∷ yss) l e =
      let n : a < length S.lists = rw (e, length-append) (omega arith) in
      let g : get_or S.lists a [] ≡ ys = rw e (get_or_at xss ys yss [] a l) in
      let h : record_at S.levels (encode S) a ≡ head_words S.levels ys
      = rec_encode S a (omega arith) ∙ (rw (lt-ltb a (length S.lists) n, g) refl) in
      let rest = lists_back (suc a) (xss ++ ys ∷ []) yss (rw length-append (omega arith)) (e ∙ sym (append_snoc xss ys yss)) in
      rw h (ap₂ (λ (x : List Node) (t : List (List Node)). x ∷ t) (chain_back a [] ys n g) rest)

pub decode-encode : (S : State) → Sound S → decode (encode S) ≡ S
decode-encode S v =
    ap₂ (λ (l : List (List Node)) (f : List ℕ). record { levels = S.levels; room = S.room; lists = l; free = f })
    (lists_back S v 0 [] S.lists refl refl) (free_back S v [] S.free refl)
