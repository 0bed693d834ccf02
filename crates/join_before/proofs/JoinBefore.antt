-- The nodes of b before those of a: of the model, that is a hung behind b, and the whole then split at 0 back into a. So the columns that
-- tell what follows change at the last owner of b, at a and at b. Rests on join's JoinLinks, HeadMoves and model's Composing.
use Prim.Native.Nat.{ℕ, ◌+◌, ◌-◌, ◌≤◌, ◌<◌}
use mathlib.Core.Path.{◌≡◌, refl, sym, ap, ◌∙◌, subst}
use mathlib.Core.Logic.{◌≢◌}
use mathlib.Core.List.{List, [], ◌++◌}
use lib.ListN.{length, get_or, set, length-set}
use lib.Seq.{set_comm, get_or-set_same, get_or-set_other, lt-length-set}
use native.Mathlib.Omega.{arith}
use Rattle.model.specs.Closed.{do_join}
use Rattle.model.specs.Arena.{State, head_words, list_of, record_of, slots_of}
use Rattle.model.specs.Calls.{do_split}
use Rattle.model.specs.Links.{absent_link}
use Rattle.model.specs.Nodes.{Node}
use Rattle.model.specs.Passes.{decode, nodes}
use Rattle.join.specs.Joins.{Joins}
use Rattle.join_before.specs.Preceded.{do_join_before}
use Rattle.model.proofs.Composing.{before_step}
use Rattle.model.proofs.Hang.{Hung, Stage, stage_is, head_S, same_0, same_1, same_3}
use Rattle.model.proofs.Owners.{field, Column, link_from}
use Rattle.model.proofs.Records.{head_words_lem}
use Rattle.model.proofs.Splitting.{SplitLike, with_lists, hung-split, split_like, not_b, b-T}
use Rattle.join.proofs.JoinLinks.{like, H}
use Rattle.join_before.proofs.HeadMoves.{HeadMoves}

module _ {w₀ : List ℕ} {m a b : ℕ} (p : Joins w₀ m b a) where
  abbrev S : State
  S = decode w₀

  abbrev T : State
  T = do_join_before S a b

  abbrev A : List Node
  A = nodes w₀ a

  abbrev B : List Node
  B = nodes w₀ b

  -- joined, then split
  abbrev J : State
  J = do_join S b a

  abbrev D : State
  D = do_split J b a 0

  same_model : D ≡ T
  same_model =
      let ne : a ≢ b = λ e. p.apart (sym e) in
      before_step S a b p.from.list p.onto.list ne ∙ ap (with_lists S) (set_comm S.lists b a [] (B ++ A) p.apart)

  split : SplitLike J J.lists D.lists b a [] (list_of J b)
  split = split_like J (like p).sound_S b a 0 (like p).list_a (like p).list_b p.apart (like p).S-b

  G : Hung J D b a [] (list_of J b) []
  G = hung-split split

  slots-J : slots_of J ≡ slots_of S
  slots-J = omega (arith, (H p).lists)

  pub lists_T : length S.lists ≡ length T.lists
  lists_T = sym (length-set (set S.lists a (B ++ A)) b [] ∙ length-set S.lists a (B ++ A))

  -- ---- what stays in column c ----
  stays : (c i : ℕ) → get_or (record_of D i) c 0 ≡ get_or (record_of J i) c 0 → get_or (record_of J i) c 0 ≡ get_or (record_of S i) c 0
      → get_or (record_of T i) c 0 ≡ get_or (record_of S i) c 0
  stays c i d j = subst (λ (Z : State). get_or (record_of Z i) c 0 ≡ get_or (record_of S i) c 0) same_model (d ∙ j)

  pub stays_0 : (i : ℕ) → i < slots_of S → i ≢ a → i ≢ b → get_or (record_of T i) 0 0 ≡ get_or (record_of S i) 0 0
  stays_0 i l na nb = stays 0 i (same_0 G i (omega (arith, slots-J)) nb na) (same_0 (H p) i l nb na)

  pub stays_3 : (i : ℕ) → i < slots_of S → i ≢ a → i ≢ b → get_or (record_of T i) 3 0 ≡ get_or (record_of S i) 3 0
  stays_3 i l na nb = stays 3 i (same_3 G i (omega (arith, slots-J)) nb na) (same_3 (H p) i l nb na)

  pub stays_1 : (i : ℕ) → i < slots_of S → i ≢ a → get_or (record_of T i) 1 0 ≡ get_or (record_of S i) 1 0
  stays_1 i l na = stays 1 i (same_1 G i (omega (arith, slots-J)) na) (same_1 (H p) i l na)

  -- ---- the heads ----
  pub head_a : record_of T a ≡ head_words S.levels (B ++ A)
  head_a =
      let ls = set S.lists a (B ++ A) in
      head_words_lem T a (lt-length-set ls b [] (lt-length-set S.lists a (B ++ A) p.from.list))
      ∙ ap (head_words S.levels) (get_or-set_other ls b a [] [] (λ e. p.apart (sym e)) ∙ get_or-set_same S.lists a (B ++ A) [] p.from.list)

  pub head_b : record_of T b ≡ head_words S.levels []
  head_b =
      let ls = set S.lists a (B ++ A) in
      let lb = lt-length-set S.lists a (B ++ A) p.onto.list in
      head_words_lem T b (lt-length-set ls b [] lb) ∙ ap (head_words S.levels) (get_or-set_same ls b [] [] lb)

  whole : record_of D a ≡ record_of J b
  whole = b-T split ∙ sym (head_S G)

  -- ---- stage h: s is the slot of the last owner of b that is high enough, r its rank; its words are those from column k on ----
  module _ {h s r : ℕ} (st : Stage (H p) h s r) (hm : h ≤ S.levels) (k : ℕ) (vs zs : List ℕ)
      (columns : (j : ℕ) → j < length vs → Column S.levels (k + j) (field j h))
      (hung : (j : ℕ) → j < length vs → get_or vs j 0 ≡ get_or (link_from (length B - r) h A) j 0) (none : (j : ℕ) → j < length vs → get_or zs j 0 ≡ get_or absent_link j 0) where
    st' : Stage G h b 0
    st' = stage_is G h hm b 0 refl refl

    joined : (i j : ℕ) → i < slots_of S → j < length vs → i ≢ s → i ≢ a → get_or (record_of J i) (k + j) 0 ≡ get_or (record_of S i) (k + j) 0
    joined i j n l ns na = st.same (k + j) j (columns j l) i n ns na

    parted : (i j : ℕ) → i < slots_of S → j < length vs → i ≢ b → i ≢ a → get_or (record_of D i) (k + j) 0 ≡ get_or (record_of J i) (k + j) 0
    parted i j n l nb na = st'.same (k + j) j (columns j l) i (omega (arith, slots-J)) nb na

    new : (j : ℕ) → j < length vs → get_or (record_of J s) (k + j) 0 ≡ get_or vs j 0
    new j l = st.new (k + j) j (columns j l) ∙ sym (hung j l)

    at_a : (j : ℕ) → get_or (record_of D a) (k + j) 0 ≡ get_or (record_of J b) (k + j) 0
    at_a j = ap (λ (R : List ℕ). get_or R (k + j) 0) whole

    pub head_moves : HeadMoves S T s a b k vs zs
    head_moves = subst (λ (Z : State). HeadMoves S Z s a b k vs zs) same_model (record {
      alike = λ i j n l ns na nb. parted i j n l nb na ∙ joined i j n l ns na;
      hung = λ j l nb. parted s j st.known l nb (not_b (like p) s st.owner) ∙ new j l;
      moved = λ j l nb. at_a j ∙ joined b j (omega (arith, p.onto.list)) l (λ e. nb (sym e)) p.apart;
      both = λ j l e. at_a j ∙ ap (λ (i : ℕ). get_or (record_of J i) (k + j) 0) (sym e) ∙ new j l;
      gone = λ j l. st'.new (k + j) j (columns j l) ∙ sym (none j l);
    })
