-- A removal at an index: what `remove_after` reads, and the words that it leaves. Rests on level_links' RemoveLinks and on chain_words.
use Prim.Native.Nat.{ℕ, suc, ◌+◌, ◌-◌, ◌≤◌, ◌<◌}
use mathlib.Core.Path.{◌≡◌, refl, sym, ap, ◌∙◌}
use mathlib.Core.Logic.{◌≢◌}
use mathlib.Core.Bool.{cond}
use mathlib.Core.List.{List, ◌∷◌, ◌++◌, append-nil}
use lib.Dec.{eqb}
use lib.ListN.{length, take, drop, get_or, length-append, length-drop, drop_of_length-le}
use native.Mathlib.Omega.{arith}
use borrow.Author.Tests.{le-leb}
use Rattle.model.specs.Nodes.{Node, N, slot_at, at}
use Rattle.model.specs.Arena.{first_free_word, free_word, count_column, height_column, next_column, last_column}
use Rattle.model.specs.Arena.{State, last_slot, head_words, node_words, free_words, record_of, slots_of, header, encode}
use Rattle.model.specs.Calls.{do_remove}
use Rattle.model.specs.Cells.{Cell, cell_at}
use Rattle.model.specs.Passes.{decode, nodes}
use Rattle.model.proofs.Hang.{Stage, head_S, head_T}
use Rattle.model.proofs.Inserting.{f_T, f_S}
use Rattle.model.proofs.Owners.{next-column}
use Rattle.model.proofs.Splitting.{last-slot-take}
use Rattle.model.proofs.Tests.{same, other, same?}
use Rattle.model.proofs.Walk.{last-zero}
use Rattle.arena.specs.Owners.{NodeThere}
use Rattle.arena.proofs.Relink.{Half, there}
use Rattle.level_links.specs.AtIndex.{NodeIs}
use Rattle.level_links.specs.OneLevel.{LinksDone}
use Rattle.level_links.proofs.RemoveLinks.{H, like, small, few, o_in, length-A, stage_of, remove_start}
use Rattle.chain_words.specs.Chain.{ChainLies, put_chain, put_free}
use Rattle.chain_words.specs.declared.Head.{Head}
use Rattle.chain_words.specs.declared.Record.{Record}
use Rattle.chain_words.proofs.ChainReads.{first-is, number_is, last_new, lies}
use Rattle.chain_words.proofs.ChainDone.{ChainIs, chain-done, free_done}

module _ {w₀ : List ℕ} {m a i : ℕ} (p : NodeThere w₀ m a i) where
  abbrev S : State
  S = decode w₀

  abbrev T : State
  T = do_remove S a i

  abbrev xs : List Node
  xs = nodes w₀ a

  -- before the node, behind it, and the node
  abbrev A : List Node
  A = take i xs

  abbrev B : List Node
  B = drop (suc i) xs

  abbrev nd : Node
  nd = at xs i

  abbrev o : ℕ
  o = nd.slot

  -- ---- what is read ----
  a_in : a < slots_of S
  a_in = omega (arith, p.listed.list)

  word : (s c : ℕ) → s < slots_of S → c < 4 → cell_at m w₀ s c ≡ get_or (record_of S s) c 0
  word s c l j = (remove_start p).between.below s c l (omega arith) j

  cell_of : (s c : ℕ) → s < slots_of S → c < 4 → Cell w₀ m s c
  cell_of s c l j = there m (slots_of S) (small p) w₀ (remove_start p).between s c l (omega arith)

  pub cell_head : (c : ℕ) → c < 4 → Cell w₀ m a c
  cell_head c l = cell_of a c a_in l

  pub place_fits : i < 65535
  place_fits = omega (arith, p.index, few p)

  head_word : (c : ℕ) → c < 4 → cell_at m w₀ a c ≡ get_or (head_words S.levels (A ++ nd ∷ B)) c 0
  head_word c l = word a c a_in l ∙ ap (λ (R : List ℕ). get_or R c 0) (head_S (H p))

  count_is : {n : ℕ} → n ≡ cell_at m w₀ a count_column → n ≡ length xs
  count_is e = e ∙ head_word 0 (omega arith) ∙ ap length (sym (H p).is_S)

  pub some_there : {n : ℕ} → n ≡ cell_at m w₀ a count_column → 1 ≤ n
  some_there e = omega (arith, count_is e, p.index)

  pub free_fits : {f : ℕ} → f ≡ get_or w₀ free_word 0 → f < 65536
  free_fits e = omega (arith, e, number_is w₀ p.listed.passes, few p)

  -- ---- what the new model says ----
  new_a : (c : ℕ) → get_or (record_of T a) c 0 ≡ get_or (head_words S.levels (A ++ B)) c 0
  new_a c = ap (λ (R : List ℕ). get_or R c 0) (head_T (H p))

  new_o : (c : ℕ) → get_or (record_of T o) c 0 ≡ get_or (free_words S.levels S.free) c 0
  new_o c = ap (λ (R : List ℕ). get_or R c 0) (f_S (like p))

  -- ---- what is stored ----
  -- the words read, by the variable that each went into
  pub record RemoveReads (e z next n l last first free : ℕ) : Type 0 where
    pub slot : z ≡ cell_at m w₀ e next_column
    pub next_node : next ≡ cell_at m w₀ z next_column
    pub count : n ≡ cell_at m w₀ a count_column
    pub old_last : l ≡ cell_at m w₀ a last_column
    pub new_last : last ≡ cond (eqb (i + 1) n) (cond (eqb i 0) N e) l
    pub first_free_lem : first ≡ get_or w₀ first_free_word 0
    pub number : free ≡ get_or w₀ free_word 0

  abbrev new_head : ℕ → ℕ → Head
  new_head n last = record { slot = record { 0 = a }; count = n - 1; last = record { 0 = last } }

  abbrev freed_node : ℕ → ℕ → Record
  freed_node z first = record { slot = record { 0 = z }; key = 0; height = N; next = record { 0 = first } }

  -- e is the slot before the node
  module _ {e : ℕ} (ee : e ≡ slot_at a xs i) where
    st : Stage (H p) 0 e i
    st = stage_of p 0 e i (omega arith) (sym (last-zero A ∙ length-A p)) ee

    pub cell-end : Cell w₀ m e next_column
    cell-end = cell_of e 2 st.known (omega arith)

    pub out_is : {z : ℕ} → z ≡ cell_at m w₀ e next_column → z ≡ o
    out_is q = q ∙ word e 2 st.known (omega arith) ∙ st.old 2 0 (next-column S.levels) ∙ (rw (le-leb 0 nd.height (omega arith)) refl)

    pub cell_out : {z : ℕ} → z ≡ cell_at m w₀ e next_column → (c : ℕ) → c < 4 → Cell w₀ m z c
    cell_out q c l = rw (out_is q) (cell_of o c (o_in p) l)

    pub word_out : {z : ℕ} → z ≡ cell_at m w₀ e next_column → (c : ℕ) → c < 4 → cell_at m w₀ z c ≡ get_or (node_words S.levels nd B) c 0
    word_out q c l = rw (out_is q) (word o c (o_in p) l ∙ ap (λ (R : List ℕ). get_or R c 0) (f_T (like p)))

    pub node-is : {z h h' : ℕ} → z ≡ cell_at m w₀ e next_column → h ≡ cell_at m w₀ z height_column → h' ≡ h → NodeIs w₀ a i z h'
    node-is q eh ew = record { slot = out_is q; height = ew ∙ eh ∙ word_out q 1 (omega arith) }

    new_last : {n l : ℕ} → n ≡ cell_at m w₀ a count_column → l ≡ cell_at m w₀ a last_column
        → get_or (record_of T a) last_column 0 ≡ cond (eqb (i + 1) n) (cond (eqb i 0) N e) l
    new_last {n} {l} en el = elim (same? (i + 1) n) [
      | same t q ↦
          let none : last_slot (A ++ B) ≡ last_slot A
          = ap (λ (y : List Node). last_slot (A ++ y)) (drop_of_length-le xs {i = suc i} (omega (arith, q, count_is en))) ∙ ap last_slot (append-nil A) in
          rw t (new_a 3 ∙ none ∙ elim (same? i 0) [
            | same u z ↦ rw u (ap (λ (k : ℕ). last_slot (take k xs)) z)
            | other u z ↦ rw u (last-slot-take a i xs (omega (arith, p.index)) z ∙ sym ee)
          ])
      | other t q ↦
          let d : 0 < length B = ahead i (length xs) p.index (λ z. q (z ∙ sym (count_is en))) (length-drop (suc i) xs) in
          rw t (new_a 3 ∙ sym (last_new A nd B d) ∙ sym (el ∙ head_word 3 (omega arith)))
    ]
      where
        ahead : (i n : ℕ) → i < n → i + 1 ≢ n → {d : ℕ} → d ≡ n - suc i → 0 < d
        ahead i n l ne e = omega (arith, e, l, ne)

    module _ {w₁ : List ℕ} (g : LinksDone w₀ T m w₁) where
      pub chain_lies : {z : ℕ} → z ≡ cell_at m w₀ e next_column → ChainLies w₁ m a e z
      chain_lies q = rw (out_is q) (record {
        head = lies (small p) g.between a a_in;
        end = lies (small p) g.between e st.known;
        node = lies (small p) g.between o (o_in p);
      })

      module _ {z next n l last first free : ℕ} (q : RemoveReads e z next n l last first free) where
        next-is : next ≡ get_or (node_words S.levels nd B) next_column 0
        next-is = q.next_node ∙ word_out q.slot 2 (omega arith)

        chain-is : ChainIs (H p) (o_in p) p.listed.levels st (new_head n last) next (freed_node z first)
        chain-is = record {
          head_slot = refl;
          node_slot = out_is q.slot;
          last = new_last q.count q.old_last ∙ sym q.new_last;
          zero = new_o 3 ∙ sym (ap (λ (R : List ℕ). get_or R 3 0) (f_T (like p)));
          next_end = sym (next-is ∙ (next-column S.levels).node nd B ∙ (rw (le-leb 0 nd.height (omega arith)) refl));
          next_node = new_o 2 ∙ sym (q.first_free_lem ∙ first-is w₀ p.listed.passes);
          height = new_o 1;
          count = new_a 0 ∙ length-append A B ∙ omega (arith, length-A p, length-drop (suc i) xs, count_is q.count, p.index);
          key = new_o 0;
        }

        pub remove_done : {w₂ w₃ : List ℕ} → w₂ ≡ put_chain m w₁ (new_head n last) e next (freed_node z first) → w₃ ≡ put_free w₂ z (free + 1) → w₃ ≡ encode T
        remove_done e₂ e₃ =
            let half : Half S T (header S) m 4 w₁ = record { front = g.front ∙ ap (take 8) p.listed.passes.words; between = g.between } in
            let chained = chain-done (H p) (o_in p) p.listed.levels st chain-is half in
            e₃ ∙ ap (λ (t : List ℕ). put_free t z (free + 1)) e₂
            ∙ free_done (H p) (o_in p) p.listed.levels st chained z (free + 1) (out_is q.slot) (omega (arith, q.number, number_is w₀ p.listed.passes))
