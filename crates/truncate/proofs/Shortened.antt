-- A truncation of a sound model: which records change, and to what. Rests on model's Hang and Records.
use Prim.Native.Nat.{ℕ, suc, ◌+◌, ◌≤◌, ◌<◌}
use mathlib.Core.Path.{◌≡◌, refl, sym, ap, ap₂, ◌∙◌, subst}
use mathlib.Core.Logic.{◌⊎◌, inl, inr}
use mathlib.Core.List.{List, [], ◌∷◌, ◌++◌, append-nil, append_assoc}
use lib.ListN.{length, take, drop, set, length-set, take-append-drop, drop_of_length-le}
use lib.Seq.{get_or-set_same, get_or-set_other, set-get_or, take_all, drop-cons, split_at}
use native.Mathlib.Omega.{arith}
use Rattle.model.specs.Arena.{State, head_words, node_words, free_words, list_of, record_of, slots_of}
use Rattle.model.specs.Calls.{do_truncate}
use Rattle.model.specs.Lists.{freed}
use Rattle.model.specs.Nodes.{Node, node, N, at}
use Rattle.model.specs.Passes.{times, Sound}
use Rattle.model.proofs.Hang.{InA, its_head, its_node, Hangs}
use Rattle.model.proofs.Inserting.{with_both}
use Rattle.model.proofs.Keeps.{sound_truncate, times-append}
use Rattle.model.proofs.Owners.{head, listed, freed as chained, kind}
use Rattle.model.proofs.Records.{head_words_lem, node_words_lem, free_words_lem, slot_of, times_mid, times_all_ge}
use Rattle.model.proofs.Splitting.{in_first, in_second, in_of}
use Rattle.model.proofs.Tests.{same, other, same?}

-- "nothing if n is the length or more"
pub nothing-freed : (S : State) (a n : ℕ) → length (list_of S a) ≤ n → do_truncate S a n ≡ S
nothing-freed S a n l =
    let xs = list_of S a in
    ap₂ (with_both S) (ap (set S.lists a) (take_all n xs l) ∙ set-get_or S.lists a []) (ap (λ (y : List Node). freed y S.free) (drop_of_length-le xs {i = n} l))

-- ---- the free chain ----
pub freed_onto : (ys : List Node) (fs : List ℕ) → freed ys fs ≡ freed ys [] ++ fs
freed_onto [] fs = refl
freed_onto (y ∷ ys) fs =
    freed_onto ys (y.slot ∷ fs) ∙ sym (append_assoc (freed ys []) (y.slot ∷ []) fs) ∙ ap (λ (t : List ℕ). t ++ fs) (sym (freed_onto ys (y.slot ∷ [])))

pub length-freed : (ys : List Node) (fs : List ℕ) → length (freed ys fs) ≡ length ys + length fs
length-freed [] fs = omega arith
length-freed (y ∷ ys) fs = omega (arith, length-freed ys (y.slot ∷ fs))

module _ (S : State) (v : Sound S) (a n : ℕ) (la : a < length S.lists) where
  abbrev T : State
  T = do_truncate S a n

  abbrev xs : List Node
  xs = list_of S a

  abbrev A : List Node
  A = take n xs

  abbrev B : List Node
  B = drop n xs

  pub sound_T : Sound T
  sound_T = sound_truncate S v a la n

  same_lists : length S.lists ≡ length T.lists
  same_lists = sym (length-set S.lists a A)

  in_two : xs ≡ A ++ B
  in_two = sym (take-append-drop n xs)

  in_both : (s : ℕ) → times s xs ≡ times s A + times s B
  in_both s = subst (λ (t : List Node). times s t ≡ times s A + times s B) (sym in_two) (times-append s A B)

  -- a slot that is not freed: an owner that stays, or its record stays
  rest : (s : ℕ) → s < slots_of S → ¬ (1 ≤ times s B) → InA a A s ⊎ (record_of T s ≡ record_of S s)
  rest s l out = elim (kind S v s l) [
    | head k ↦ elim (same? s a) [
      | same e q ↦ inl (its_head q)
      | other e q ↦ inr (head_words_lem T s (omega (arith, same_lists)) ∙ ap (head_words S.levels) (get_or-set_other S.lists a s A [] q) ∙ sym (head_words_lem S s k))
    ]
    | listed c lc aa y ys e q ↦ elim (same? c a) [
      | same f r ↦ elim (in_of A B aa y ys (sym in_two ∙ sym (ap (list_of S) r) ∙ e)) [
        | in_first vs h i ↦ inl (its_node aa y vs h q)
        | in_second us h i ↦ absurd (out (subst (λ (z : ℕ). 1 ≤ times z B) q (subst (λ (t : List Node). 1 ≤ times y.slot t) (sym i) (times_mid us y ys))))
      ]
      | other f r ↦
          inr (subst (λ (z : ℕ). record_of T z ≡ record_of S z) q
          (node_words_lem T sound_T c aa y ys (omega (arith, same_lists)) (get_or-set_other S.lists a c A [] r ∙ e) ∙ sym (node_words_lem S v c aa y ys lc e)))
    ]
    | chained gs hs e ↦
        let f : T.free ≡ (freed B [] ++ gs) ++ s ∷ hs = freed_onto B S.free ∙ ap (λ (t : List ℕ). freed B [] ++ t) e ∙ sym (append_assoc (freed B []) gs (s ∷ hs)) in
        inr (free_words_lem T sound_T (freed B [] ++ gs) s hs f ∙ sym (free_words_lem S v gs s hs e))
  ]

  pub hangs : Hangs S T a (λ s. 1 ≤ times s B) A B []
  hangs = record {
    sound_S = v;
    sound_T = sound_T;
    levels = refl;
    room = refl;
    lists = same_lists;
    list = la;
    is_S = in_two;
    is_T = get_or-set_same S.lists a A [] la ∙ sym (append-nil A);
    rest = rest;
  }

  -- an owner that stays is not freed
  pub stays : (s : ℕ) → InA a A s → times s B ≡ 0
  stays s i = elim i [
    | its_head q ↦ rw q (omega (arith, v.no_head a la, times_all_ge a S.lists a, in_both a))
    | its_node aa y vs h q ↦
        let e : xs ≡ aa ++ y ∷ (vs ++ B) = in_two ∙ ap (λ (t : List Node). t ++ B) h ∙ append_assoc aa (y ∷ vs) B in
        let k : 1 ≤ times y.slot A = subst (λ (t : List Node). 1 ≤ times y.slot t) (sym h) (times_mid aa y vs) in
        subst (λ (z : ℕ). times z B ≡ 0) q (omega (arith, (slot_of S v a aa y (vs ++ B) e).2, times_all_ge y.slot S.lists a, in_both y.slot))
  ]

  -- the node at index i
  module _ (i : ℕ) (l : i < length xs) where
    abbrev y : Node
    y = at xs i

    abbrev ys : List Node
    ys = drop (suc i) xs

    mid : xs ≡ take i xs ++ y ∷ ys
    mid = split_at xs i (node N 0 0) l

    pub slot_in_lem : y.slot < slots_of S
    slot_in_lem = (slot_of S v a (take i xs) y ys mid).1

    pub as-node : record_of S y.slot ≡ node_words S.levels y ys
    as-node = node_words_lem S v a (take i xs) y ys la mid

    pub once : times y.slot ys ≡ 0
    once =
        let e : times y.slot xs ≡ times y.slot (take i xs ++ y ∷ []) + times y.slot ys
        = subst (λ (t : List Node). times y.slot t ≡ times y.slot (take i xs ++ y ∷ []) + times y.slot ys)
        (append_assoc (take i xs) (y ∷ []) ys ∙ sym mid) (times-append y.slot (take i xs ++ y ∷ []) ys) in
        omega (arith, (slot_of S v a (take i xs) y ys mid).2, times_all_ge y.slot S.lists a, times_mid (take i xs) y [])

    -- where fs was on the free chain when it was freed
    pub as_free : (fs : List ℕ) → freed (drop i xs) fs ≡ T.free → record_of T y.slot ≡ free_words S.levels fs
    as_free fs e =
        free_words_lem T sound_T (freed ys []) y.slot fs
        (sym e ∙ ap (λ (t : List Node). freed t fs) (drop-cons xs i (node N 0 0) l) ∙ freed_onto ys (y.slot ∷ fs))
