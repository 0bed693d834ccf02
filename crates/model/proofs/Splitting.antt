-- A split, and an append that undoes it: what changes in the records. Rests on Hang.
use Prim.Native.Nat.{ℕ, zero, suc, ◌≤◌, ◌<◌}
use mathlib.Core.Path.{◌≡◌, refl, sym, ap, ◌∙◌, subst}
use mathlib.Core.Logic.{◌≢◌, ◌⊎◌, inl, inr}
use mathlib.Core.List.{List, [], ◌∷◌, ◌++◌, append-nil, append_assoc}
use lib.ListN.{length, take, drop, get_or, set, length-set, length-append, take-append-drop}
use lib.Seq.{get_or-set_same, get_or-set_other, lt-length-set, get_or-take}
use native.Mathlib.Omega.{arith}
use Rattle.model.specs.Arena.{State, head_words, last_slot, list_of, record_of, slots_of}
use Rattle.model.specs.Calls.{do_split}
use Rattle.model.specs.Nodes.{Node, node, N, slot_at, at}
use Rattle.model.specs.Passes.{Sound}
use Rattle.model.proofs.Hang.{InA, its_head, its_node, Hung}
use Rattle.model.proofs.Keeps.{sound-split}
use Rattle.model.proofs.Owners.{head, listed, freed, kind}
use Rattle.model.proofs.Records.{head_words_lem, node_words_lem, free_words_lem, slot_of}
use Rattle.model.proofs.Tests.{same, other, same?}

abbrev pub with_lists : State → List (List Node) → State
with_lists Z ls = record { levels = Z.levels; room = Z.room; lists = ls; free = Z.free }

-- list a is A ++ B and list b empty, or a is A and b is B
pub record SplitLike (Z : State) (ls ms : List (List Node)) (a b : ℕ) (A B : List Node) : Type 0 where
  pub sound_S : Sound (with_lists Z ls)
  pub sound_T : Sound (with_lists Z ms)
  pub lists : length ls ≡ length ms
  pub list_a : a < length ls
  pub list_b : b < length ls
  pub apart : a ≢ b
  pub S-a : get_or ls a [] ≡ A ++ B
  pub S-b : get_or ls b [] ≡ []
  pub T-a : get_or ms a [] ≡ A
  pub T-b : get_or ms b [] ≡ B
  pub others : (z : ℕ) → z ≢ a → z ≢ b → get_or ms z [] ≡ get_or ls z []

-- a node of A ++ B stands in A or in B
pub data InOf (A B aa : List Node) (y : Node) (ys : List Node) : Type 0 where
  in_first : (vs : List Node) → A ≡ aa ++ y ∷ vs → ys ≡ vs ++ B → InOf A B aa y ys
  in_second : (us : List Node) → aa ≡ A ++ us → B ≡ us ++ y ∷ ys → InOf A B aa y ys

pub in_of : (A B aa : List Node) (y : Node) (ys : List Node) → A ++ B ≡ aa ++ y ∷ ys → InOf A B aa y ys
in_of [] B aa y ys e = in_second aa refl e
in_of (x ∷ A) B [] y ys e = in_first A (ap (λ (k : Node). k ∷ A) (cc)) (cc)
in_of (x ∷ A) B (z ∷ aa) y ys e =
    let f : A ++ B ≡ aa ++ y ∷ ys = cc in
    let q : x ≡ z = cc in
    elim (in_of A B aa y ys f) [
      | in_first vs g h ↦ in_first vs (cc) h
      | in_second us g h ↦ in_second us (cc) h
    ]

module _ {Z : State} {ls ms : List (List Node)} {a b : ℕ} {A B : List Node} (p : SplitLike Z ls ms a b A B) where
  abbrev S : State
  S = with_lists Z ls

  abbrev T : State
  T = with_lists Z ms

  rest : (s : ℕ) → s < slots_of S → s ≢ b → InA a A s ⊎ (record_of T s ≡ record_of S s)
  rest s l nb = elim (kind S p.sound_S s l) [
    | head k ↦ elim (same? s a) [
      | same e q ↦ inl (its_head q)
      | other e q ↦ inr (head_words_lem T s (omega (arith, p.lists)) ∙ ap (head_words Z.levels) (p.others s q nb) ∙ sym (head_words_lem S s k))
    ]
    | listed c lc aa y ys e q ↦ elim (same? c a) [
      | same f r ↦
          let g : A ++ B ≡ aa ++ y ∷ ys = sym p.S-a ∙ sym (ap (list_of S) r) ∙ e in
          elim (in_of A B aa y ys g) [
            | in_first vs h i ↦ inl (its_node aa y vs h q)
            | in_second us h i ↦
                inr (subst (λ (z : ℕ). record_of T z ≡ record_of S z) q
                (node_words_lem T p.sound_T b us y ys (omega (arith, p.lists, p.list_b)) (p.T-b ∙ i) ∙ sym (node_words_lem S p.sound_S a aa y ys p.list_a (p.S-a ∙ g))))
          ]
      | other f r ↦ elim (same? c b) [
        | same j k ↦ absurd (omega (arith, ap length (sym p.S-b ∙ sym (ap (list_of S) k) ∙ e), length-append aa (y ∷ ys)))
        | other j k ↦
            inr (subst (λ (z : ℕ). record_of T z ≡ record_of S z) q
            (node_words_lem T p.sound_T c aa y ys (omega (arith, p.lists)) (p.others c r k ∙ e) ∙ sym (node_words_lem S p.sound_S c aa y ys lc e)))
      ]
    ]
    | freed gs hs e ↦ inr (free_words_lem T p.sound_T gs s hs e ∙ sym (free_words_lem S p.sound_S gs s hs e))
  ]

  pub hung-split : Hung S T a b A B []
  hung-split = record {
    sound_S = p.sound_S;
    sound_T = p.sound_T;
    levels = refl;
    room = refl;
    lists = p.lists;
    list = p.list_a;
    is_S = p.S-a;
    is_T = p.T-a ∙ sym (append-nil A);
    rest = rest;
  }

  -- no owner of A is b
  pub not_b : (s : ℕ) → InA a A s → s ≢ b
  not_b s i e = elim i [
    | its_head q ↦ p.apart (sym q ∙ e)
    | its_node aa y vs h q ↦
        omega (arith, (slot_of S p.sound_S a aa y (vs ++ B) (p.S-a ∙ ap (λ (t : List Node). t ++ B) h ∙ append_assoc aa (y ∷ vs) B)).0, q, e, p.list_b)
  ]

  pub b-S : record_of S b ≡ head_words Z.levels []
  b-S = head_words_lem S b p.list_b ∙ ap (head_words Z.levels) p.S-b

  pub b-T : record_of T b ≡ head_words Z.levels B
  b-T = head_words_lem T b (omega (arith, p.lists, p.list_b)) ∙ ap (head_words Z.levels) p.T-b

-- the split of the model
pub split_like : (S : State) → Sound S → (a b i : ℕ) → a < length S.lists → b < length S.lists → a ≢ b → list_of S b ≡ []
    → SplitLike S S.lists (do_split S a b i).lists a b (take i (list_of S a)) (drop i (list_of S a))
split_like S v a b i la lb ne emp =
    let A = take i (list_of S a) in
    let B = drop i (list_of S a) in
    record {
      sound_S = v;
      sound_T = sound-split S v a la b lb ne i emp;
      lists = sym (length-set (set S.lists a A) b B ∙ length-set S.lists a A);
      list_a = la;
      list_b = lb;
      apart = ne;
      S-a = sym (take-append-drop i (list_of S a));
      S-b = emp;
      T-a = get_or-set_other (set S.lists a A) b a B [] ne ∙ get_or-set_same S.lists a A [] la;
      T-b = get_or-set_same (set S.lists a A) b B [] (lt-length-set S.lists a A lb);
      others = λ z na nb. get_or-set_other (set S.lists a A) b z B [] nb ∙ get_or-set_other S.lists a z A [] na;
    }

-- ---- slots and last slots of a list that is cut ----
pub slot-take : (a i : ℕ) (xs : List Node) (p : ℕ) → p ≤ i → slot_at a (take i xs) p ≡ slot_at a xs p
slot-take a i xs zero l = refl
slot-take a i xs (suc j) l = ap (λ (y : Node). y.slot) (get_or-take i xs j (node N 0 0) l)

pub last-take : (xs : List Node) (j : ℕ) → j < length xs → last_slot (take (suc j) xs) ≡ (at xs j).slot
last-take [] j l = absurd (omega arith)
last-take (y ∷ []) zero l = refl
last-take (y ∷ []) (suc j) l = absurd (omega arith)
last-take (y ∷ z ∷ xs) zero l = refl
last-take (y ∷ z ∷ xs) (suc j) l = last-take (z ∷ xs) j (omega arith)

pub last-slot-take : (a i : ℕ) (xs : List Node) → i ≤ length xs → (i ≡ 0 → ⊥) → last_slot (take i xs) ≡ slot_at a xs i
last-slot-take a zero xs l nz = absurd (nz refl)
last-slot-take a (suc j) xs l nz = last-take xs j l

pub last-drop : (xs : List Node) (j : ℕ) → j < length xs → last_slot (drop j xs) ≡ last_slot xs
last-drop xs zero l = refl
last-drop [] (suc j) l = absurd (omega arith)
last-drop (y ∷ []) (suc j) l = absurd (omega arith)
last-drop (y ∷ z ∷ xs) (suc j) l = last-drop (z ∷ xs) j (omega arith)

-- the last slot of two lists is that of the second
pub last-joined : (aa bb : List Node) → 0 < length bb → last_slot (aa ++ bb) ≡ last_slot bb
last-joined [] bb l = refl
last-joined (a ∷ aa) [] l = absurd (omega arith)
last-joined (a ∷ []) (b ∷ bb) l = refl
last-joined (a ∷ c ∷ aa) (b ∷ bb) l = last-joined (c ∷ aa) (b ∷ bb) l
