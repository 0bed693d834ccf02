-- An insertion, and a removal that undoes it: what changes in the records. Rests on Hang and Splitting (which part a node stands in).
use Prim.Native.Nat.{ℕ, ◌≤◌, ◌<◌}
use mathlib.Core.Path.{◌≡◌, refl, sym, ap, ◌∙◌, subst}
use mathlib.Core.Logic.{◌≢◌, ◌⊎◌, inl, inr}
use mathlib.Core.List.{List, [], ◌∷◌, ◌++◌, append_assoc}
use lib.ListN.{length, take, drop, get_or, length-set, take-append-drop}
use lib.Seq.{get_or-set_same, get_or-set_other}
use native.Mathlib.Omega.{arith}
use Rattle.model.specs.Arena.{State, node_words, head_words, free_words, list_of, put_list, record_of, slots_of}
use Rattle.model.specs.Lists.{insert_at}
use Rattle.model.specs.Nodes.{Node, node, Sorted}
use Rattle.model.specs.Passes.{Sound}
use Rattle.model.proofs.Hang.{InA, its_head, its_node, Hung}
use Rattle.model.proofs.Keeps.{sound-insert-at}
use Rattle.model.proofs.Owners.{head, listed, freed, kind}
use Rattle.model.proofs.Records.{head_words_lem, node_words_lem, free_words_lem, free_slot}
use Rattle.model.proofs.Splitting.{in_first, in_second, in_of}
use Rattle.model.proofs.Tests.{same, other, same?}

abbrev pub with_both : State → List (List Node) → List ℕ → State
with_both Z ls fs = record { levels = Z.levels; room = Z.room; lists = ls; free = fs }

-- list a is A ++ B and f is first on the free chain, or a is A ++ n ∷ B, where n stands in slot f
pub record InsertLike (Z : State) (ls ms : List (List Node)) (f : ℕ) (fs : List ℕ) (a : ℕ) (A : List Node) (n : Node) (B : List Node) : Type 0 where
  pub sound_S : Sound (with_both Z ls (f ∷ fs))
  pub sound_T : Sound (with_both Z ms fs)
  pub lists : length ls ≡ length ms
  pub list_a : a < length ls
  pub slot : n.slot ≡ f
  pub S-a : get_or ls a [] ≡ A ++ B
  pub T-a : get_or ms a [] ≡ A ++ n ∷ B
  pub others : (z : ℕ) → z ≢ a → get_or ms z [] ≡ get_or ls z []

module _ {Z : State} {ls ms : List (List Node)} {f : ℕ} {fs : List ℕ} {a : ℕ} {A : List Node} {n : Node} {B : List Node} (p : InsertLike Z ls ms f fs a A n B) where
  abbrev S : State
  S = with_both Z ls (f ∷ fs)

  abbrev T : State
  T = with_both Z ms fs

  free_rest : (s : ℕ) (gs hs : List ℕ) → s ≢ f → f ∷ fs ≡ gs ++ s ∷ hs → record_of T s ≡ record_of S s
  free_rest s [] hs ne e = absurd (ne (cc))
  free_rest s (g ∷ gs) hs ne e =
      let q : fs ≡ gs ++ s ∷ hs = cc in
      free_words_lem T p.sound_T gs s hs q ∙ sym (free_words_lem S p.sound_S (g ∷ gs) s hs e)

  rest : (s : ℕ) → s < slots_of S → s ≢ f → InA a A s ⊎ (record_of T s ≡ record_of S s)
  rest s l nf = elim (kind S p.sound_S s l) [
    | head k ↦ elim (same? s a) [
      | same e q ↦ inl (its_head q)
      | other e q ↦ inr (head_words_lem T s (omega (arith, p.lists)) ∙ ap (head_words Z.levels) (p.others s q) ∙ sym (head_words_lem S s k))
    ]
    | listed c lc aa y ys e q ↦ elim (same? c a) [
      | same i r ↦
          let g : A ++ B ≡ aa ++ y ∷ ys = sym p.S-a ∙ sym (ap (list_of S) r) ∙ e in
          elim (in_of A B aa y ys g) [
            | in_first vs h i ↦ inl (its_node aa y vs h q)
            | in_second us h i ↦
                let t : get_or ms a [] ≡ (A ++ n ∷ us) ++ y ∷ ys = p.T-a ∙ ap (λ (x : List Node). A ++ n ∷ x) i ∙ sym (append_assoc A (n ∷ us) (y ∷ ys)) in
                inr (subst (λ (z : ℕ). record_of T z ≡ record_of S z) q
                (node_words_lem T p.sound_T a (A ++ n ∷ us) y ys (omega (arith, p.lists, p.list_a)) t ∙ sym (node_words_lem S p.sound_S a aa y ys p.list_a (p.S-a ∙ g))))
          ]
      | other i r ↦
          inr (subst (λ (z : ℕ). record_of T z ≡ record_of S z) q
          (node_words_lem T p.sound_T c aa y ys (omega (arith, p.lists)) (p.others c r ∙ e) ∙ sym (node_words_lem S p.sound_S c aa y ys lc e)))
    ]
    | freed gs hs e ↦ inr (free_rest s gs hs nf e)
  ]

  pub hung-insert : Hung S T a f A B (n ∷ B)
  hung-insert = record {
    sound_S = p.sound_S;
    sound_T = p.sound_T;
    levels = refl;
    room = refl;
    lists = p.lists;
    list = p.list_a;
    is_S = p.S-a;
    is_T = p.T-a;
    rest = rest;
  }

  pub f_in : (length ls ≤ f) × (f < slots_of S)
  f_in = let q = free_slot S p.sound_S [] f fs refl in (q.0, q.1)

  pub f_T : record_of T f ≡ node_words Z.levels n B
  f_T = subst (λ (z : ℕ). record_of T z ≡ node_words Z.levels n B) p.slot (node_words_lem T p.sound_T a A n B (omega (arith, p.lists, p.list_a)) p.T-a)

  pub f_S : record_of S f ≡ free_words Z.levels fs
  f_S = free_words_lem S p.sound_S [] f fs refl

-- an insertion in the model, where the free chain is f and fs, at a place where the keys stay in order
pub insert_like : (S : State) → Sound S → (f : ℕ) (fs : List ℕ) → S.free ≡ f ∷ fs → (a i k h : ℕ) → a < length S.lists → h ≤ S.levels
    → Sorted (insert_at i (node f k h) (list_of S a))
    → InsertLike S S.lists (put_list S a (insert_at i (node f k h) (list_of S a)) fs).lists f fs a (take i (list_of S a)) (node f k h) (drop i (list_of S a))
insert_like S v f fs e a i k h la hm so =
    let xs = list_of S a in
    let ys = insert_at i (node f k h) xs in
    record {
      sound_S = subst (λ (t : List ℕ). Sound (with_both S S.lists t)) e v;
      sound_T = sound-insert-at S v a la f fs i k h e hm so;
      lists = sym (length-set S.lists a ys);
      list_a = la;
      slot = refl;
      S-a = sym (take-append-drop i xs);
      T-a = get_or-set_same S.lists a ys [] la;
      others = λ z na. get_or-set_other S.lists a z ys [] na;
    }
