-- An arena passes exactly when document 01's clauses hold of it: the two theorems. Rests on Builds, Records, Columns and Chained.
use Prim.Native.Nat.{ℕ, suc, ◌+◌, ◌≤◌, ◌<◌}
use mathlib.Core.Path.{◌≡◌, refl, sym, ap, ◌∙◌, subst}
use mathlib.Core.Bool.{true, false}
use mathlib.Core.List.{List, [], ◌∷◌, ◌++◌}
use lib.Dec.{leb}
use lib.ListN.{length, get_or}
use lib.Seq.{append_snoc}
use native.Mathlib.Omega.{arith}
use borrow.Author.Tests.{le-leb, lt-leb}
use Rattle.model.specs.Arena.{width, to_column, State, head_words, node_words, free_words, first_slot, first_free, encode}
use Rattle.model.specs.Cells.{record_at, cell_at, link_at}
use Rattle.model.specs.Links.{link_words, link_of, absent_link}
use Rattle.model.specs.Nodes.{Node, Sorted, Low}
use Rattle.model.specs.Passes.{decode, nodes, times, times_all, times_free, Sound, Passes, Chained, Clauses}
use Rattle.model.proofs.Builds.{Reads-as, words_are}
use Rattle.model.proofs.Chained.{stands, stands_free, chain_out, free_out, none-all, each_all, free_field, chained-none, chained_more}
use Rattle.model.proofs.Columns.{cell_record, length-encode, every_column, link_field, link_is, record_is, front_words_lem}
use Rattle.model.proofs.Columns.{first-chain, first_free_lem, length-chain, length_free, nodes_are, lists_are}
use Rattle.model.proofs.Keeps.{each_get}
use Rattle.model.proofs.Owners.{link_column}
use Rattle.model.proofs.Records.{length_links, length-absent, rec_encode, head_words_lem, record_node, record_free, free_slot, placed, times_mid, times_all_ge}
use Rattle.model.proofs.Tests.{hit, miss, test}

-- ---- from the clauses ----
module _ (w : List ℕ) (c : Clauses w) where
  L : ℕ
  L = get_or w 2 0

  M : ℕ
  M = get_or w 3 0

  C : ℕ
  C = get_or w 4 0

  read-field : (s l j : ℕ) → j < link_words → {k : List ℕ} → link_at M w s l ≡ k → cell_at M w s (to_column l + j) ≡ get_or k j 0
  read-field s l j q e = sym (link_field M w s l j q) ∙ ap (λ (k : List ℕ). get_or k j 0) e

  -- the columns of a head, a node in a list and a free node
  head_columns : (a : ℕ) → a < L → (k : ℕ) → k < width M → cell_at M w a k ≡ get_or (head_words M (nodes w a)) k 0
  unfolding L M C
  head_columns a l =
      let xs = nodes w a in
      let e = nodes_are w a l in
      let h = c.chains a l in
      every_column (λ k. cell_at M w a k ≡ get_or (head_words M xs) k 0) M
      (sym (ap length e ∙ length-chain M w (cell_at M w a 0) (cell_at M w a 2)))
      (c.head_height a l)
      (sym (ap first_slot e ∙ first-chain M w (cell_at M w a 0) (cell_at M w a 2) (chained-none L M C w (cell_at M w a 0) (cell_at M w a 2) h)))
      (c.lasts a l)
      (λ i j k q.
      let t : leb (suc i) M ≡ true = le-leb (suc i) M k in
      read-field a i j q (c.head_links a l i k).link ∙ sym ((link_column M i j k q).head xs ∙ (rw t refl)))

  node_columns : (a : ℕ) (aa : List Node) (y : Node) (ys : List Node) → a < L → nodes w a ≡ aa ++ y ∷ ys → (k : ℕ) → k < width M
      → cell_at M w y.slot k ≡ get_or (node_words M y ys) k 0
  unfolding L M C
  node_columns a aa y ys l e =
      let v = stands L M C w (cell_at M w a 0) (cell_at M w a 2) aa y ys (c.chains a l) (sym (nodes_are w a l) ∙ e) in
      every_column (λ k. cell_at M w y.slot k ≡ get_or (node_words M y ys) k 0) M v.key v.height v.next (c.node_zero a aa y ys l e)
      (λ i j k q. elim (test (suc i) y.height) [
        | hit t p ↦ read-field y.slot i j q (c.links_of_nodes a aa y ys l e i k p).link ∙ sym ((link_column M i j k q).node y ys ∙ (rw t refl))
        | miss t p ↦ read-field y.slot i j q (c.node_absent a aa y ys l e i k (omega arith)).link ∙ sym ((link_column M i j k q).node y ys ∙ (rw t refl))
      ])

  free_columns : (gs : List ℕ) (f : ℕ) (fs : List ℕ) → (decode w).free ≡ gs ++ f ∷ fs → (k : ℕ) → k < width M → cell_at M w f k ≡ get_or (free_words M fs) k 0
  unfolding L M C
  free_columns gs f fs e =
      let v = stands_free L M C w (get_or w 6 0) (get_or w 5 0) gs f fs c.frees e in
      let p = c.free_form gs f fs e in
      every_column (λ k. cell_at M w f k ≡ get_or (free_words M fs) k 0) M p.0 p.1 v.next p.2
      (λ i j k q. read-field f i j q (c.free_links gs f fs e i k).link ∙ sym (free_field M fs i j k q))

  reads : Reads-as (decode w) w
  unfolding L M C
  reads = record {
    size = rw (lists_are w) c.size;
    front = front_words_lem w (omega (arith, c.size))
        ∙ (rw (
          c.is_mark,
          c.is_version,
          c.last_word,
          lists_are w,
          length_free M w (get_or w 6 0) (get_or w 5 0),
          first_free_lem M w (get_or w 6 0) (get_or w 5 0) (chained-none L M C w (get_or w 6 0) (get_or w 5 0) c.frees),
        ) refl);
    heads = λ a l.
        let k : a < L = omega (arith, lists_are w) in
        record_is M (L + C) w a (head_words M (nodes w a)) c.size (omega arith) (omega (arith, length_links 0 M M (nodes w a))) (head_columns a k);
    in_a_list = λ a aa y ys l e.
        let k : a < L = omega (arith, lists_are w) in
        let v = stands L M C w (cell_at M w a 0) (cell_at M w a 2) aa y ys (c.chains a k) (sym (nodes_are w a k) ∙ e) in
        record_is M (L + C) w y.slot (node_words M y ys) c.size v.below (omega (arith, length_links 0 M y.height ys)) (node_columns a aa y ys k e);
    on_free = λ gs f fs e.
        let v = stands_free L M C w (get_or w 6 0) (get_or w 5 0) gs f fs c.frees e in
        record_is M (L + C) w f (free_words M fs) c.size v.below (omega (arith, length-absent M)) (free_columns gs f fs e);
  }

  outside : (x : ℕ) → (L ≤ x → x < L + C → ⊥) → times_all x (decode w).lists + times_free x (decode w).free ≡ 0
  unfolding L M C
  outside x out =
      omega (
        arith,
        free_out L M C w x out (get_or w 6 0) (get_or w 5 0) c.frees,
        none-all x (decode w).lists (λ a l.
            let k : a < L = omega (arith, lists_are w) in
            rw (nodes_are w a k) (chain_out L M C w x out (cell_at M w a 0) (cell_at M w a 2) (c.chains a k))),
      )

  sound : Sound (decode w)
  unfolding L M C
  sound = record {
    sorted = each_all Sorted (decode w).lists (λ a l. c.sorted a (omega (arith, lists_are w)));
    low = each_all (Low M) (decode w).lists (λ a l. c.node_height a (omega (arith, lists_are w)));
    once = λ s p q. c.once s (omega (arith, lists_are w)) (omega (arith, lists_are w));
    no_head = λ s p. outside s (λ i j. omega (arith, lists_are w));
    no_more = λ s p. outside s (λ i j. omega (arith, lists_are w));
  }

pub clauses_pass : (w : List ℕ) → Clauses w → Passes w
clauses_pass w c = record { words = words_are (decode w) (sound w c) w (reads w c); sound = sound w c; sizes = rw (lists_are w) c.ranges }

-- ---- to the clauses ----
module _ (w : List ℕ) (p : Passes w) where
  abbrev S : State
  S = decode w

  in_lists_lem : (a : ℕ) → a < get_or w 2 0 → a < length S.lists
  in_lists_lem a l = omega (arith, lists_are w)

  cell_of : (s : ℕ) (R : List ℕ) → record_at S.levels (encode S) s ≡ R → (k : ℕ) → k < width S.levels → cell_at S.levels w s k ≡ get_or R k 0
  cell_of s R e k l =
      cell_record S.levels w s k l ∙ ap (λ (x : List ℕ). get_or x k 0) (ap (λ (u : List ℕ). record_at S.levels u s) p.words ∙ e)

  pub head_cell : (a : ℕ) → a < get_or w 2 0 → (k : ℕ) → k < width S.levels → cell_at S.levels w a k ≡ get_or (head_words S.levels (nodes w a)) k 0
  head_cell a l = cell_of a (head_words S.levels (nodes w a)) (rec_encode S a (omega (arith, in_lists_lem a l)) ∙ head_words_lem S a (in_lists_lem a l))

  pub node-cell : (a : ℕ) (aa : List Node) (y : Node) (ys : List Node) → a < get_or w 2 0 → nodes w a ≡ aa ++ y ∷ ys → (k : ℕ) → k < width S.levels
      → cell_at S.levels w y.slot k ≡ get_or (node_words S.levels y ys) k 0
  node-cell a aa y ys l e = cell_of y.slot (node_words S.levels y ys) (record_node S p.sound a aa y ys (in_lists_lem a l) e)

  free_cell : (gs : List ℕ) (f : ℕ) (fs : List ℕ) → S.free ≡ gs ++ f ∷ fs → (k : ℕ) → k < width S.levels → cell_at S.levels w f k ≡ get_or (free_words S.levels fs) k 0
  free_cell gs f fs e = cell_of f (free_words S.levels fs) (record_free S p.sound gs f fs e)

  node_slot : (a : ℕ) (aa : List Node) (y : Node) (ys : List Node) → nodes w a ≡ aa ++ y ∷ ys → (get_or w 2 0 ≤ y.slot) × (y.slot < get_or w 2 0 + S.room)
  node_slot a aa y ys e =
      let t : 1 ≤ times y.slot (nodes w a) = subst (λ (z : List Node). 1 ≤ times y.slot z) (sym e) (times_mid aa y ys) in
      let q = placed S p.sound y.slot (omega (arith, times_all_ge y.slot S.lists a)) in
      (omega (arith, lists_are w, q.0), omega (arith, lists_are w, q.1))

  chained-nodes : (a : ℕ) → a < get_or w 2 0 → (aa ys : List Node) → nodes w a ≡ aa ++ ys → Chained (get_or w 2 0) S.levels S.room w (length ys) (first_slot ys)
  chained-nodes a l aa [] e = record { through = λ j k. absurd (omega arith); ends = refl }
  chained-nodes a l aa (y ∷ ys) e =
      let i = chained-nodes a l (aa ++ y ∷ []) ys (e ∙ sym (append_snoc aa y ys)) in
      let next = node-cell a aa y ys l e 2 (omega arith) in
      chained_more (get_or w 2 0) S.levels S.room w (length ys) y.slot (first_slot ys) next (node_slot a aa y ys e) i

  chained_free : (gs fs : List ℕ) → S.free ≡ gs ++ fs → Chained (get_or w 2 0) S.levels S.room w (length fs) (first_free fs)
  chained_free gs [] e = record { through = λ j k. absurd (omega arith); ends = refl }
  chained_free gs (f ∷ fs) e =
      let i = chained_free (gs ++ f ∷ []) fs (e ∙ sym (append_snoc gs f fs)) in
      let next = free_cell gs f fs e 2 (omega arith) in
      let q = free_slot S p.sound gs f fs e in
      chained_more (get_or w 2 0) S.levels S.room w (length fs) f (first_free fs) next (omega (arith, lists_are w, q.0), omega (arith, lists_are w, q.1)) i

  clauses : Clauses w
  clauses = record {
    size = rw (← lists_are w) (ap length p.words ∙ length-encode S);
    is_mark = ap (λ (u : List ℕ). get_or u 0 0) p.words;
    is_version = ap (λ (u : List ℕ). get_or u 1 0) p.words;
    ranges = rw (lists_are w) at p.sizes;
    last_word = ap (λ (u : List ℕ). get_or u 7 0) p.words;
    chains = λ a l. rw (head_cell a l 0 (omega arith), head_cell a l 2 (omega arith)) (chained-nodes a l [] (nodes w a) refl);
    lasts = λ a l. head_cell a l 3 (omega arith);
    sorted = λ a l. each_get Sorted S.lists a tt p.sound.sorted;
    once = λ s i j. p.sound.once s (omega (arith, lists_are w)) (omega (arith, lists_are w));
    frees =
        subst (λ (n : ℕ). Chained (get_or w 2 0) S.levels S.room w n (get_or w 5 0)) (length_free S.levels w (get_or w 6 0) (get_or w 5 0))
        (subst (λ (f : ℕ). Chained (get_or w 2 0) S.levels S.room w (length S.free) f) (sym (ap (λ (u : List ℕ). get_or u 5 0) p.words)) (chained_free [] S.free refl));
    head_height = λ a l. head_cell a l 1 (omega arith);
    node_height = λ a l. each_get (Low S.levels) S.lists a tt p.sound.low;
    node_zero = λ a aa y ys l e. node-cell a aa y ys l e 3 (omega arith);
    free_form = λ gs f fs e. (free_cell gs f fs e 0 (omega arith), free_cell gs f fs e 1 (omega arith), free_cell gs f fs e 3 (omega arith));
    free_links = λ gs f fs e l k.
        record { link = link_is S.levels w f l absent_link refl (λ j q. free_cell gs f fs e (to_column l + j) (omega arith) ∙ free_field S.levels fs l j k q) };
    head_links = λ a i l k.
        let t : leb (suc l) S.levels ≡ true = le-leb (suc l) S.levels k in
        record {
          link = link_is S.levels w a l (link_of (suc l) (nodes w a)) refl
              (λ j q. head_cell a i (to_column l + j) (omega arith) ∙ (link_column S.levels l j k q).head (nodes w a) ∙ (rw t refl));
        };
    links_of_nodes = λ a aa y ys i e l k h.
        let t : leb (suc l) y.height ≡ true = le-leb (suc l) y.height h in
        record {
          link = link_is S.levels w y.slot l (link_of (suc l) ys) refl
              (λ j q. node-cell a aa y ys i e (to_column l + j) (omega arith) ∙ (link_column S.levels l j k q).node y ys ∙ (rw t refl));
        };
    node_absent = λ a aa y ys i e l k h.
        let t : leb (suc l) y.height ≡ false = lt-leb (suc l) y.height (omega arith) in
        record {
          link = link_is S.levels w y.slot l absent_link refl
              (λ j q. node-cell a aa y ys i e (to_column l + j) (omega arith) ∙ (link_column S.levels l j k q).node y ys ∙ (rw t refl));
        };
  }

pub passes-clauses : (w : List ℕ) → Passes w → Clauses w
passes-clauses w p = clauses w p
