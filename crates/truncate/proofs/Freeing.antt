-- The nodes behind are freed, one by one, and the header closes it: the loop of `trim`, and the words that it leaves. Rests on Ending and UntilFreed.
use Prim.Native.Nat.{ℕ, zero, suc, ◌+◌, ◌-◌, ◌≤◌, ◌<◌}
use mathlib.Core.Path.{◌≡◌, refl, sym, ap, ◌∙◌}
use mathlib.Core.List.{List, [], ◌∷◌}
use lib.ListN.{length, take, drop, get_or, set, length-drop, drop_of_length-le}
use lib.Seq.{drop-cons, take-set-lt}
use native.Mathlib.Nat.{mul-le-mul_right}
use native.Mathlib.Numerals.{add-one}
use native.Mathlib.Omega.{arith}
use borrow.Author.Tests.{lt-leb}
use Rattle.model.specs.Arena.{width, to_column, State, first_slot, first_free, node_words, free_words, absent_links, record_of, slots_of, encode}
use Rattle.model.specs.Calls.{do_truncate}
use Rattle.model.specs.Cells.{Cell, cell_at}
use Rattle.model.specs.Links.{absent_link}
use Rattle.model.specs.Lists.{freed}
use Rattle.model.specs.Nodes.{Node, node, N, at, slot_at}
use Rattle.model.specs.Passes.{decode, nodes, Sound}
use Rattle.model.proofs.Counting.{list_few}
use Rattle.model.proofs.Keeps.{low-list}
use Rattle.model.proofs.Ordering.{low_cut}
use Rattle.model.proofs.Columns.{link_is}
use Rattle.model.proofs.Owners.{link_column, next-column}
use Rattle.model.proofs.Records.{head_words_lem, times_mid}
use Rattle.model.proofs.Tests.{same, other, same?}
use Rattle.arena.specs.Between.{Between}
use Rattle.arena.specs.Owners.{Listed, NodeThere}
use Rattle.arena.proofs.Relink.{there, between-header, relink_end}
use Rattle.arena.proofs.Places.{has-header}
use Rattle.model.proofs.Steps.{first-target}
use Rattle.truncate.specs.Truncation.{until_freed}
use Rattle.free_node.specs.NodeRecord.{HoldsNode, NodeFreed}
use Rattle.truncate.proofs.UntilFreed.{as_old, as_new, one_less}
use Rattle.truncate.proofs.Shortened.{nothing-freed, length-freed, slot_in_lem, as-node, once, as_free}
use Rattle.truncate.proofs.Ending.{H, small, ChainEnded, none-ended, end-stage}

-- equal records have equal columns
at-column : (c : ℕ) {R Q : List ℕ} → R ≡ Q → get_or R c 0 ≡ get_or Q c 0
at-column c e = ap (λ (R : List ℕ). get_or R c 0) e

first-at : (xs : List Node) (i : ℕ) → first_slot (drop i xs) ≡ (at xs i).slot
first-at [] zero = refl
first-at [] (suc i) = refl
first-at (x ∷ xs) zero = refl
first-at (x ∷ xs) (suc i) = first-at xs i

module _ {w₀ : List ℕ} {m a n : ℕ} (p : NodeThere w₀ m a n) where
  abbrev S : State
  S = decode w₀

  abbrev T : State
  T = do_truncate S a n

  abbrev xs : List Node
  xs = nodes w₀ a

  abbrev sound : Sound S
  sound = p.listed.passes.sound

  abbrev la : a < length S.lists
  la = p.listed.list

  -- slot s is the node at index i; the nodes from there on are to be freed, and fs is the free chain before them
  pub record Freeing (i s front : ℕ) (w : List ℕ) : Type 0 where
    pub slot : s ≡ (at xs i).slot
    pub fs : List ℕ
    pub rest : freed (drop i xs) fs ≡ T.free
    pub first : front ≡ first_free fs
    pub head : take 8 w ≡ take 8 w₀
    pub between : Between m (slots_of S) (until_freed S T (drop i xs)) (record_of S) 0 (width m) w

  few : length xs + length S.free ≤ 65535
  few = omega (arith, list_few S sound a, p.listed.passes.sizes.room_most)

  -- ---- what is read before ----
  old_word : (s c : ℕ) → s < slots_of S → c < 4 → cell_at m w₀ s c ≡ get_or (record_of S s) c 0
  old_word s c l k = (none-ended p).between.below s c l (omega arith) k

  old_cell : (s c : ℕ) → s < slots_of S → c < 4 → Cell w₀ m s c
  old_cell s c l k = there m (slots_of S) (small p) w₀ (none-ended p).between s c l (omega arith)

  pub head_cell : Cell w₀ m a 0
  head_cell = old_cell a 0 (omega (arith, la)) (omega arith)

  pub count_is : {k : ℕ} → k ≡ cell_at m w₀ a 0 → k ≡ length xs
  count_is e = e ∙ old_word a 0 (omega (arith, la)) (omega arith) ∙ at-column 0 (head_words_lem S a la)

  pub more_than : {k : ℕ} → k ≡ cell_at m w₀ a 0 → n ≤ k
  more_than e = omega (arith, count_is e, p.index)

  free_is : {f : ℕ} → f ≡ get_or w₀ 6 0 → f ≡ length S.free
  free_is e = e ∙ ap (λ (t : List ℕ). get_or t 6 0) p.listed.passes.words

  pub total_fits : {f k : ℕ} → f ≡ get_or w₀ 6 0 → k ≡ cell_at m w₀ a 0 → f + (k - n) < 65536
  total_fits e q = omega (arith, free_is e, count_is q, few)

  pub end-cell : {e : ℕ} → e ≡ slot_at a xs n → Cell w₀ m e 2
  end-cell {e} ee = old_cell e 2 (end-stage p ee).known (omega arith)

  pub long : 8 ≤ length w₀
  long = has-header w₀ p.listed.passes

  -- ---- the loop ----
  pub free_start : {e s front : ℕ} → e ≡ slot_at a xs n → s ≡ cell_at m w₀ e 2 → front ≡ get_or w₀ 5 0
      → {w : List ℕ} → ChainEnded p 0 (width m) w → Freeing n s front w
  free_start {e} {s} ee es ef g = record {
    slot = es ∙ old_word e 2 (end-stage p ee).known (omega arith) ∙ (end-stage p ee).old 2 0 (next-column S.levels)
        ∙ sym (first-target (drop n xs)) ∙ first-at xs n;
    fs = S.free;
    rest = refl;
    first = ef ∙ ap (λ (t : List ℕ). get_or t 5 0) p.listed.passes.words;
    head = g.front;
    between = g.between;
  }

  module _ {i s front : ℕ} {w : List ℕ} (g : Freeing i s front w) where
    pub size_is : length w ≡ length w₀
    size_is = g.between.size ∙ sym (none-ended p).between.size

    module _ (l : i < length xs) where
      abbrev y : Node
      y = at xs i

      abbrev ys : List Node
      ys = drop (suc i) xs

      y_in : y.slot < slots_of S
      y_in = slot_in_lem S sound a n la i l

      cons : drop i xs ≡ y ∷ ys
      cons = drop-cons xs i (node N 0 0) l

      word : (c : ℕ) → c < width m → cell_at m w y.slot c ≡ get_or (node_words S.levels y ys) c 0
      word c k =
          g.between.new y.slot c y_in k (omega arith) k
          ∙ at-column c (as_old S T (drop i xs) y.slot (rw cons (times_mid [] y ys)) ∙ as-node S sound a n la i l)

      low : y.height ≤ m
      low = omega (arith, p.listed.levels, (rw cons at (low_cut S.levels i xs (low-list S sound a)).1).0)

      pub node_at : HoldsNode w m s
      node_at = rw g.slot (record {
        lies = record { small = small p; inside = omega (arith, g.between.size, mul-le-mul_right (width m) y_in) };
        low = omega (arith, word 1 (omega arith), low);
        zero = word 3 (omega arith);
        absent = λ k x z.
            let km : k < S.levels = omega (arith, p.listed.levels) in
            let h : y.height < suc k = omega (arith, word 1 (omega arith)) in
            record {
              link = link_is m w y.slot k absent_link refl
                  (λ j q. word (to_column k + j) (omega arith) ∙ (link_column S.levels k j km q).node y ys ∙ (rw (lt-leb (suc k) y.height h) refl));
            };
      })

      pub next-cell : Cell w m s 2
      next-cell = rw g.slot (there m (slots_of S) (small p) w g.between y.slot 2 y_in (omega arith))

      -- s is freed in words w, which leaves u
      module _ {u : List ℕ} (q : NodeFreed m y.slot front w u) where
        freed_word : (c : ℕ) → c < width m → cell_at m u y.slot c ≡ get_or (record_of T y.slot) c 0
        freed_word c k =
            q.form c k ∙ ap (λ (f : ℕ). get_or (0 ∷ N ∷ f ∷ 0 ∷ absent_links m) c 0) g.first ∙ ap (λ (h : ℕ). get_or (free_words h g.fs) c 0) p.listed.levels
            ∙ sym (at-column c (as_free S sound a n la i l g.fs g.rest))

        new_word : (z c : ℕ) → z < slots_of S → c < width m → cell_at m u z c ≡ get_or (until_freed S T ys z) c 0
        new_word z c x k = elim (same? z y.slot) [
          | same e f ↦ rw f (freed_word c k ∙ sym (at-column c (as_new S T ys y.slot (once S sound a n la i l))))
          | other e f ↦
              q.others z c f k ∙ g.between.new z c x k (omega arith) k
              ∙ at-column c (ap (λ (t : List Node). until_freed S T t z) cons ∙ one_less S T y ys z f)
        ]

        turned : {next : ℕ} → next ≡ cell_at m w y.slot 2 → length u ≡ length w → Freeing (suc i) next s u
        turned en size = record {
          slot = en ∙ word 2 (omega arith) ∙ first-at xs (suc i);
          fs = y.slot ∷ g.fs;
          rest = (rw cons at g.rest);
          first = g.slot;
          head = q.front ∙ g.head;
          between = record {
            size = size ∙ g.between.size;
            new = λ z c x k b d. new_word z c x k;
            below = λ z c x k b. absurd (omega arith);
            above = λ z c x k b. absurd (omega arith);
          };
        }

      pub free_turn : {next : ℕ} → next ≡ cell_at m w s 2 → {u : List ℕ} → NodeFreed m s front w u → length u ≡ length w → Freeing (i + 1) next s u
      free_turn en q size = rw add-one (turned (rw g.slot at q) (rw g.slot at en) size)

    -- ---- the whole ----
    module _ (done : length xs ≤ i) where
      none : drop i xs ≡ []
      none = drop_of_length-le xs {i = i} done

      all_new : Between m (slots_of S) (record_of T) (record_of S) 0 (width m) w
      all_new = record {
        size = g.between.size;
        new = λ z c x k b d. g.between.new z c x k b d ∙ at-column c (as_new S T (drop i xs) z (rw none refl));
        below = λ z c x k b. absurd (omega arith);
        above = λ z c x k b. absurd (omega arith);
      }

      pub freed-all : {free count : ℕ} → free ≡ get_or w₀ 6 0 → count ≡ cell_at m w₀ a 0
          → {x : List ℕ} → x ≡ set (set w 5 front) 6 (free + (count - n)) → x ≡ encode T
      freed-all {free} {count} ef ec ex =
          let k = free + (count - n) in
          let front_words_lem = g.head ∙ ap (take 8) p.listed.passes.words in
          let e : first_free T.free ≡ front = sym (g.first ∙ ap first_free (ap (λ (t : List Node). freed t g.fs) (sym none) ∙ g.rest)) in
          let f : length T.free ≡ k = length-freed (drop n xs) S.free ∙ omega (arith, length-drop n xs, count_is ec, p.index, free_is ef) in
          ex ∙ relink_end (H p) m p.listed.levels (set (set w 5 front) 6 k) (between-header 6 k (omega arith) (between-header 5 front (omega arith) all_new))
          (take-set-lt 8 (set w 5 front) 6 k (omega arith)
          ∙ ap (λ (t : List ℕ). set t 6 k) (take-set-lt 8 w 5 front (omega arith) ∙ ap (λ (t : List ℕ). set t 5 front) front_words_lem)
          ∙ (rw ((H p).lists, e, f) refl))

-- nothing changes where the list has no more than n nodes
pub kept-all : {w : List ℕ} {m a : ℕ} (n : ℕ) → Listed w m a → length (nodes w a) ≤ n → w ≡ encode (do_truncate (decode w) a n)
kept-all {w} {m} {a} n p l = p.passes.words ∙ ap encode (sym (nothing-freed (decode w) a n l))
