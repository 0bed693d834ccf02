-- A list of which the part behind A changes: of each stage, the links of one owner of A change, the last that is high enough.
-- Rests on Owners and Records.
use Prim.Native.Nat.{ℕ, zero, suc, ◌-◌, ◌≤◌, ◌<◌}
use mathlib.Core.Path.{◌≡◌, refl, sym, ap, ◌∙◌, subst}
use mathlib.Core.Logic.{◌≢◌, ◌⊎◌, inl, inr}
use mathlib.Core.Bool.{cond}
use mathlib.Core.List.{List, ◌∷◌, ◌++◌, append_assoc}
use lib.Dec.{leb}
use lib.ListN.{length, take, drop, get_or, length-drop}
use lib.Seq.{split_at, get_or_at, length-take-le}
use native.Mathlib.Omega.{arith}
use borrow.Author.Tests.{le-leb}
use Rattle.model.specs.Arena.{State, node_words, head_words, last_slot, list_of, record_of, slots_of}
use Rattle.model.specs.Links.{distance, absent_link}
use Rattle.model.specs.Nodes.{Node, node, N, slot_at, at}
use Rattle.model.specs.Passes.{Sound}
use Rattle.model.specs.Closed.{last}
use Rattle.model.proofs.Owners.{field, Column, link_from, last_mid, last-distance, distance-last, near, beyond}
use Rattle.model.proofs.Precursor.{last-node}
use Rattle.model.proofs.Records.{head_words_lem, node_words_lem, slot_of}
use Rattle.model.proofs.Tests.{hit, miss, test}
use Rattle.model.proofs.Walk.{last_le}

-- the owners of A
pub data InA (a : ℕ) (A : List Node) (s : ℕ) : Type 0 where
  its_head : s ≡ a → InA a A s
  its_node : (aa : List Node) (y : Node) (vs : List Node) → A ≡ aa ++ y ∷ vs → y.slot ≡ s → InA a A s

-- ---- the owners of A but the last that is high enough keep their links ----
module _ (a : ℕ) (A : List Node) (h : ℕ) where
  pub keep-node : (aa : List Node) (y : Node) (vs : List Node) → A ≡ aa ++ y ∷ vs → y.slot ≢ slot_at a A (last h A) → h ≤ y.height → distance h vs ≢ 0
  keep-node aa y vs e ne l z =
      let p : last h A ≡ suc (length aa) = ap (last h) e ∙ last_mid h aa y vs l ∙ omega (arith, distance-last h vs z) in
      let g : get_or (aa ++ y ∷ vs) (length aa) (node N 0 0) ≡ y = get_or_at aa y vs (node N 0 0) (length aa) refl in
      ne (sym (ap (slot_at a A) p ∙ ap (λ (t : List Node). (get_or t (length aa) (node N 0 0)).slot) e ∙ ap (λ (n : Node). n.slot) g))

  pub keep_head : a ≢ slot_at a A (last h A) → distance h A ≢ 0
  keep_head ne z = ne (sym (ap (slot_at a A) (distance-last h A z)))

  pub keep : (j : ℕ) (Z aa : List Node) (y : Node) (vs : List Node) → A ≡ aa ++ y ∷ vs → y.slot ≢ slot_at a A (last h A)
      → field j h y.height (vs ++ Z) ≡ field j h y.height vs
  keep j Z aa y vs e ne = elim (test h y.height) [
    | hit f p ↦ rw f (ap (λ (k : List ℕ). get_or k j 0) (near h vs Z (keep-node aa y vs e ne p)))
    | miss f p ↦ rw f refl
  ]

-- ---- one state: what the columns say of the owners of A ----
module _ (S : State) (v : Sound S) (a : ℕ) (la : a < length S.lists) (A X : List Node) (e : list_of S a ≡ A ++ X) where
  mid : (aa : List Node) (y : Node) (vs : List Node) → A ≡ aa ++ y ∷ vs → list_of S a ≡ aa ++ y ∷ (vs ++ X)
  mid aa y vs f = e ∙ ap (λ (t : List Node). t ++ X) f ∙ append_assoc aa (y ∷ vs) X

  pub head_of : record_of S a ≡ head_words S.levels (A ++ X)
  head_of = head_words_lem S a la ∙ ap (head_words S.levels) e

  pub node_of : (aa : List Node) (y : Node) (vs : List Node) → A ≡ aa ++ y ∷ vs → record_of S y.slot ≡ node_words S.levels y (vs ++ X)
  node_of aa y vs f = node_words_lem S v a aa y (vs ++ X) la (mid aa y vs f)

  -- the last that is high enough: its slot, and where its link goes
  module _ (h : ℕ) (hm : h ≤ S.levels) where
    pub record Goes (p : ℕ) : Type 0 where
      pub known : slot_at a A p < slots_of S
      pub owner : InA a A (slot_at a A p)
      pub reads : (c j : ℕ) → Column S.levels c (field j h) → get_or (record_of S (slot_at a A p)) c 0 ≡ get_or (link_from (length A - p) h X) j 0

    goes : (p : ℕ) → last h A ≡ p → Goes p
    goes zero q =
        let b = beyond h A X (last-distance h A q) in
        let z : length A ≡ length A - 0 = omega arith in
        record {
          known = omega arith;
          owner = its_head refl;
          reads = λ c j r. rw head_of (r.head (A ++ X) ∙ (rw (le-leb h S.levels hm) (ap (λ (k : List ℕ). get_or k j 0) (b ∙ ap (λ (n : ℕ). link_from n h X) z))));
        }
    goes (suc i) q =
        let y = at A i in
        let vs = drop (suc i) A in
        let k : i < length A = omega (arith, last_le h A) in
        let s = split_at A i (node N 0 0) k in
        let t = last-node h A i q in
        let z : last h vs ≡ 0 = omega (arith, sym q ∙ ap (last h) s ∙ last_mid h (take i A) y vs t, length-take-le i A (omega arith)) in
        let b = beyond h vs X (last-distance h vs z) in
        let d = length-drop (suc i) A in
        record {
          known = (slot_of S v a (take i A) y (vs ++ X) (mid (take i A) y vs s)).1;
          owner = its_node (take i A) y vs s refl;
          reads = λ c j r.
              rw (node_of (take i A) y vs s)
              (r.node y (vs ++ X) ∙ (rw (le-leb h y.height t) (ap (λ (k : List ℕ). get_or k j 0) (b ∙ ap (λ (n : ℕ). link_from n h X) d))));
        }

    pub goes_last : Goes (last h A)
    goes_last = goes (last h A) refl

-- ---- two states: behind A the list a changes from X to Y; else slots of Out alone change ----
pub record Hangs (S T : State) (a : ℕ) (Out : ℕ → Type 0) (A X Y : List Node) : Type 0 where
  pub sound_S : Sound S
  pub sound_T : Sound T
  pub levels : S.levels ≡ T.levels
  pub room : S.room ≡ T.room
  pub lists : length S.lists ≡ length T.lists
  pub list : a < length S.lists
  pub is_S : list_of S a ≡ A ++ X
  pub is_T : list_of T a ≡ A ++ Y
  pub rest : (s : ℕ) → s < slots_of S → ¬ Out s → InA a A s ⊎ (record_of T s ≡ record_of S s)

-- one slot o
abbrev pub Hung : State → State → ℕ → ℕ → List Node → List Node → List Node → Type 0
Hung S T a o A X Y = Hangs S T a (λ z. z ≡ o) A X Y

-- the other way round: an append undoes a split, a removal an insertion
pub flip : {S T : State} {a : ℕ} {Out : ℕ → Type 0} {A X Y : List Node} → Hangs S T a Out A X Y → Hangs T S a Out A Y X
flip H = record {
  sound_S = H.sound_T;
  sound_T = H.sound_S;
  levels = sym H.levels;
  room = sym H.room;
  lists = sym H.lists;
  list = omega (arith, H.list, H.lists);
  is_S = H.is_T;
  is_T = H.is_S;
  rest = λ s l ne. elim (H.rest s (omega (arith, H.lists, H.room)) ne) [ inl i ↦ inl i | inr e ↦ inr (sym e) ];
}

module _ {S T : State} {a : ℕ} {Out : ℕ → Type 0} {A X Y : List Node} (H : Hangs S T a Out A X Y) where
  in_T : a < length T.lists
  in_T = omega (arith, H.list, H.lists)

  -- a column that says qh of a head and qn of a node: it differs at P and at Out alone
  module _ (c P : ℕ) (qh : List Node → ℕ) (qn : Node → List Node → ℕ)
      (hd : (xs : List Node) → get_or (head_words S.levels xs) c 0 ≡ qh xs) (nd : (y : Node) (ys : List Node) → get_or (node_words S.levels y ys) c 0 ≡ qn y ys)
      (keeps : (Z aa : List Node) (y : Node) (vs : List Node) → A ≡ aa ++ y ∷ vs → y.slot ≢ P → qn y (vs ++ Z) ≡ qn y vs)
      (keeps-head : (Z : List Node) → a ≢ P → qh (A ++ Z) ≡ qh A) where
    pub agree : (s : ℕ) → s < slots_of S → s ≢ P → ¬ Out s → get_or (record_of T s) c 0 ≡ get_or (record_of S s) c 0
    agree s l np nz = elim (H.rest s l nz) [
      | inr q ↦ ap word q
      | inl i ↦ elim i [
        | its_head q ↦
            let nq : a ≢ P = λ z. np (q ∙ z) in
            let in-S = ap word (head_of S H.sound_S a H.list A X H.is_S) ∙ hd (A ++ X) ∙ keeps-head X nq in
            let in_T = ap word (head_of T H.sound_T a in_T A Y H.is_T ∙ ap (λ (m : ℕ). head_words m (A ++ Y)) (sym H.levels)) ∙ hd (A ++ Y) ∙ keeps-head Y nq in
            subst (λ (k : ℕ). word (record_of T k) ≡ word (record_of S k)) (sym q) (in_T ∙ sym in-S)
        | its_node aa y vs w q ↦
            let nq : y.slot ≢ P = λ z. np (sym q ∙ z) in
            let in-S = ap word (node_of S H.sound_S a H.list A X H.is_S aa y vs w) ∙ nd y (vs ++ X) ∙ keeps X aa y vs w nq in
            let in_T = ap word (node_of T H.sound_T a in_T A Y H.is_T aa y vs w ∙ ap (λ (m : ℕ). node_words m y (vs ++ Y)) (sym H.levels))
            ∙ nd y (vs ++ Y) ∙ keeps Y aa y vs w nq in
            subst (λ (k : ℕ). word (record_of T k) ≡ word (record_of S k)) q (in_T ∙ sym in-S)
      ]
    ]
      where
        word : List ℕ → ℕ
        word R = get_or R c 0

  -- of the columns 0, 1 and 3 the heads' change alone; of column 1 nothing
  pub same_0 : (s : ℕ) → s < slots_of S → s ≢ a → ¬ Out s → get_or (record_of T s) 0 0 ≡ get_or (record_of S s) 0 0
  same_0 = agree 0 a length (λ y ys. y.key) (λ xs. refl) (λ y ys. refl) (λ Z aa y vs e nq. refl) (λ Z nq. absurd (nq refl))

  pub same_1 : (s : ℕ) → s < slots_of S → ¬ Out s → get_or (record_of T s) 1 0 ≡ get_or (record_of S s) 1 0
  same_1 s l = agree 1 (slots_of S) (λ xs. S.levels) (λ y ys. y.height) (λ xs. refl) (λ y ys. refl) (λ Z aa y vs f nq. refl) (λ Z nq. refl) s l (λ f. omega arith)

  pub same_3 : (s : ℕ) → s < slots_of S → s ≢ a → ¬ Out s → get_or (record_of T s) 3 0 ≡ get_or (record_of S s) 3 0
  same_3 = agree 3 a last_slot (λ y ys. 0) (λ xs. refl) (λ y ys. refl) (λ Z aa y vs e nq. refl) (λ Z nq. absurd (nq refl))

  pub head_S : record_of S a ≡ head_words S.levels (A ++ X)
  head_S = head_of S H.sound_S a H.list A X H.is_S

  pub head_T : record_of T a ≡ head_words S.levels (A ++ Y)
  head_T = head_of T H.sound_T a in_T A Y H.is_T ∙ ap (λ (m : ℕ). head_words m (A ++ Y)) (sym H.levels)

  -- stage h: s is the slot of the last owner of A that is high enough, r its rank
  pub record Stage (h s r : ℕ) : Type 0 where
    pub known : s < slots_of S
    pub owner : InA a A s
    pub within : r ≤ length A
    pub old : (c j : ℕ) → Column S.levels c (field j h) → get_or (record_of S s) c 0 ≡ get_or (link_from (length A - r) h X) j 0
    pub new : (c j : ℕ) → Column S.levels c (field j h) → get_or (record_of T s) c 0 ≡ get_or (link_from (length A - r) h Y) j 0
    pub same : (c j : ℕ) → Column S.levels c (field j h) → (z : ℕ) → z < slots_of S → z ≢ s → ¬ Out z → get_or (record_of T z) c 0 ≡ get_or (record_of S z) c 0

  pub stage_is : (h : ℕ) → h ≤ S.levels → (s r : ℕ) → r ≡ last h A → s ≡ slot_at a A r → Stage h s r
  stage_is h hm s r er es =
      let g = goes_last S H.sound_S a H.list A X H.is_S h hm in
      let g' = goes_last T H.sound_T a in_T A Y H.is_T h (omega (arith, H.levels)) in
      rw (es, er) (record {
        known = g.known;
        owner = g.owner;
        within = last_le h A;
        old = g.reads;
        new = λ c j q. g'.reads c j (subst (λ (m : ℕ). Column m c (field j h)) H.levels q);
        same = λ c j q.
            agree c (slot_at a A (last h A)) (field j h S.levels) (λ y ys. field j h y.height ys) q.head q.node
            (λ Z aa y vs. keep a A h j Z aa y vs)
            (λ Z ne. ap (λ (k : List ℕ). get_or (cond (leb h S.levels) k absent_link) j 0) (near h A Z (keep_head a A h ne)));
      })
