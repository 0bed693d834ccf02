-- An insertion before an index: what `insert_before` reads, and the words that it leaves. Rests on level_links' InsertLinks and on chain_words.
use Prim.Native.Nat.{ℕ, ◌+◌, ◌-◌, ◌≤◌, ◌<◌}
use mathlib.Core.Path.{◌≡◌, refl, sym, ap, ◌∙◌}
use mathlib.Core.Logic.{◌≢◌}
use mathlib.Core.Bool.{cond}
use mathlib.Core.List.{List, [], ◌∷◌, ◌++◌}
use lib.Dec.{eqb}
use lib.ListN.{length, take, drop, get_or, length-append, length-drop, drop_of_length-le}
use native.Mathlib.Omega.{arith}
use borrow.Author.Tests.{le-leb}
use Rattle.model.specs.Nodes.{Node, node, slot_at}
use Rattle.model.specs.Arena.{first_free_word, free_word, count_column, next_column, last_column, State, first_free, last_slot, head_words, node_words, record_of, slots_of, header, encode}
use Rattle.model.specs.Cells.{Cell, cell_at}
use Rattle.model.specs.Passes.{decode, nodes}
use Rattle.model.proofs.Splitting.{last-joined}
use Rattle.model.proofs.Hang.{Stage, head_S, head_T}
use Rattle.model.proofs.Inserting.{f_T}
use Rattle.model.proofs.Owners.{next-column}
use Rattle.model.proofs.Tests.{same, other, same?}
use Rattle.model.proofs.Walk.{last-zero}
use Rattle.arena.proofs.Relink.{Half, there}
use Rattle.level_links.specs.AtIndex.{inserted_at, CanInsert}
use Rattle.level_links.specs.OneLevel.{LinksDone}
use Rattle.level_links.proofs.InsertLinks.{H, like, o-S, small, few, o_in, length-A, stage_of, insert_start}
use Rattle.chain_words.specs.Chain.{ChainLies, put_chain, put_free}
use Rattle.chain_words.specs.declared.Head.{Head}
use Rattle.chain_words.specs.declared.Record.{Record}
use Rattle.chain_words.proofs.ChainReads.{first-is, number_is, last_new, lies}
use Rattle.chain_words.proofs.ChainDone.{ChainIs, chain-done, free_done}

module _ {w₀ : List ℕ} {m a i k h : ℕ} (p : CanInsert w₀ m a i k h) where
  abbrev S : State
  S = decode w₀

  abbrev T : State
  T = inserted_at S a i k h

  abbrev xs : List Node
  xs = nodes w₀ a

  -- before the place, behind it, and the node that comes between
  abbrev A : List Node
  A = take i xs

  abbrev B : List Node
  B = drop i xs

  abbrev o : ℕ
  o = first_free S.free

  abbrev nd : Node
  nd = node o k h

  -- ---- what is read ----
  a_in : a < slots_of S
  a_in = omega (arith, p.listed.list)

  word : (s c : ℕ) → s < slots_of S → c < 4 → cell_at m w₀ s c ≡ get_or (record_of S s) c 0
  word s c l j = (insert_start p).between.below s c l (omega arith) j

  cell_of : (s c : ℕ) → s < slots_of S → c < 4 → Cell w₀ m s c
  cell_of s c l j = there m (slots_of S) (small p) w₀ (insert_start p).between s c l (omega arith)

  slot_is : {z : ℕ} → z ≡ get_or w₀ first_free_word 0 → z ≡ o
  slot_is e = e ∙ first-is w₀ p.listed.passes

  pub cell_free : {z : ℕ} → z ≡ get_or w₀ first_free_word 0 → Cell w₀ m z next_column
  cell_free e = rw (slot_is e) (cell_of o 2 (o_in p) (omega arith))

  pub cell_head : (c : ℕ) → c < 4 → Cell w₀ m a c
  cell_head c l = cell_of a c a_in l

  head_word : (c : ℕ) → c < 4 → cell_at m w₀ a c ≡ get_or (head_words S.levels (A ++ B)) c 0
  head_word c l = word a c a_in l ∙ ap (λ (R : List ℕ). get_or R c 0) (head_S (H p))

  count_is : {n : ℕ} → n ≡ cell_at m w₀ a count_column → n ≡ length xs
  count_is e = e ∙ head_word 0 (omega arith) ∙ ap length (sym (H p).is_S)

  pub count_fits : {n : ℕ} → n ≡ cell_at m w₀ a count_column → n < 65535
  count_fits e = omega (arith, count_is e, few p)

  pub some_free : {f : ℕ} → f ≡ get_or w₀ free_word 0 → 1 ≤ f
  some_free e = omega (arith, e, number_is w₀ p.listed.passes, p.room)

  -- ---- what the new model says ----
  new_a : (c : ℕ) → get_or (record_of T a) c 0 ≡ get_or (head_words S.levels (A ++ nd ∷ B)) c 0
  new_a c = ap (λ (R : List ℕ). get_or R c 0) (head_T (H p))

  new_o : (c : ℕ) → get_or (record_of T o) c 0 ≡ get_or (node_words S.levels nd B) c 0
  new_o c = ap (λ (R : List ℕ). get_or R c 0) (f_T (like p))

  new_last : {n l : ℕ} → n ≡ cell_at m w₀ a count_column → l ≡ cell_at m w₀ a last_column → get_or (record_of T a) last_column 0 ≡ cond (eqb i n) o l
  new_last {n} {l} en el = elim (same? i n) [
    | same e q ↦
        let b : B ≡ [] = drop_of_length-le xs {i = i} (omega (arith, q, count_is en)) in
        rw e (new_a 3 ∙ last-joined A (nd ∷ B) (omega arith) ∙ ap (λ (t : List Node). last_slot (nd ∷ t)) b)
    | other e q ↦
        let d : 0 < length B = ahead i (length xs) p.within (λ z. q (z ∙ sym (count_is en))) (length-drop i xs) in
        rw e (new_a 3 ∙ last_new A nd B d ∙ sym (el ∙ head_word 3 (omega arith)))
  ]
    where
      ahead : (i n : ℕ) → i ≤ n → i ≢ n → {d : ℕ} → d ≡ n - i → 0 < d
      ahead i n l ne e = omega (arith, e, l, ne)

  -- ---- what is stored; e is the slot before the place ----
  -- the words read, by the variable that each went into
  pub record InsertReads (e z free rest n next l last : ℕ) : Type 0 where
    pub slot : z ≡ get_or w₀ first_free_word 0
    pub number : free ≡ get_or w₀ free_word 0
    pub next_free : rest ≡ cell_at m w₀ z next_column
    pub count : n ≡ cell_at m w₀ a count_column
    pub next_end : next ≡ cell_at m w₀ e next_column
    pub old_last : l ≡ cell_at m w₀ a last_column
    pub new_last : last ≡ cond (eqb i n) z l

  abbrev new_head : ℕ → ℕ → Head
  new_head n last = record { slot = record { 0 = a }; count = n + 1; last = record { 0 = last } }

  abbrev new_node : ℕ → ℕ → Record
  new_node z next = record { slot = record { 0 = z }; key = k; height = h; next = record { 0 = next } }

  module _ {e : ℕ} (ee : e ≡ slot_at a xs i) where
    st : Stage (H p) 0 e i
    st = stage_of p 0 e i (omega arith) (sym (last-zero A ∙ length-A p)) ee

    pub cell-end : Cell w₀ m e next_column
    cell-end = cell_of e 2 st.known (omega arith)

    module _ {w₁ : List ℕ} (g : LinksDone w₀ T m w₁) where
      pub chain_lies : {z : ℕ} → z ≡ get_or w₀ first_free_word 0 → ChainLies w₁ m a e z
      chain_lies q = rw (slot_is q) (record {
        head = lies (small p) g.between a a_in;
        end = lies (small p) g.between e st.known;
        node = lies (small p) g.between o (o_in p);
      })

      module _ {z free rest n next l last : ℕ} (q : InsertReads e z free rest n next l last) where
        zo : z ≡ o
        zo = slot_is q.slot

        next-is : get_or (record_of T o) next_column 0 ≡ cell_at m w₀ e next_column
        next-is =
            let column = next-column S.levels in
            new_o 2 ∙ column.node nd B ∙ (rw (le-leb 0 h (omega arith)) (sym (word e 2 st.known (omega arith) ∙ st.old 2 0 column)))

        chain-is : ChainIs (H p) (o_in p) p.listed.levels st (new_head n last) z (new_node z next)
        chain-is = record {
          head_slot = refl;
          node_slot = zo;
          last = new_last q.count q.old_last ∙ sym (q.new_last ∙ ap (λ (y : ℕ). cond (eqb i n) y l) zo);
          zero = new_o 3 ∙ sym (ap (λ (R : List ℕ). get_or R 3 0) (o-S p));
          next_end = (rw (le-leb 0 h (omega arith)) refl) ∙ sym zo;
          next_node = next-is ∙ sym q.next_end;
          height = new_o 1;
          count = new_a 0 ∙ length-append A (nd ∷ B) ∙ omega (arith, length-A p, length-drop i xs, p.within, count_is q.count);
          key = new_o 0;
        }

        rest-is : rest ≡ first_free T.free
        rest-is = q.next_free ∙ ap (λ (y : ℕ). cell_at m w₀ y 2) zo ∙ word o 2 (o_in p) (omega arith) ∙ ap (λ (R : List ℕ). get_or R 2 0) (o-S p)

        pub insert-done : {w₂ w₃ : List ℕ} → w₂ ≡ put_chain m w₁ (new_head n last) e z (new_node z next) → w₃ ≡ put_free w₂ rest (free - 1) → w₃ ≡ encode T
        insert-done e₂ e₃ =
            let half : Half S T (header S) m 4 w₁ = record { front = g.front ∙ ap (take 8) p.listed.passes.words; between = g.between } in
            let chained = chain-done (H p) (o_in p) p.listed.levels st chain-is half in
            e₃ ∙ ap (λ (t : List ℕ). put_free t rest (free - 1)) e₂
            ∙ free_done (H p) (o_in p) p.listed.levels st chained rest (free - 1) rest-is
            (omega (arith, q.number, number_is w₀ p.listed.passes, length-drop 1 S.free, p.room))
