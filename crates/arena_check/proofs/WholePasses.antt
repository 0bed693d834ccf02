-- Words are whole exactly when the arena passes, and so the check keeps its promise.
-- Rests on list_check's ListFacts, on FreeClauses and Once, and on model's Clauses.
use Prim.Native.Nat.{ℕ, ◌+◌, ◌≤◌, ◌<◌}
use mathlib.Core.Path.{◌≡◌, refl, sym, ap, ◌∙◌, subst}
use mathlib.Core.Bool.{Bool, true, false}
use mathlib.Core.List.{List, [], ◌∷◌, ◌++◌}
use lib.Dec.{T}
use lib.ListN.{length, get_or}
use native.Mathlib.Omega.{arith}
use Rattle.model.specs.Arena.{last_slot}
use Rattle.model.specs.Calls.{CheckPromise}
use Rattle.model.specs.Nodes.{Node, Sorted, Low}
use Rattle.model.specs.Passes.{decode, nodes, times_all, times_free, LinkIs, Passes, Clauses}
use Rattle.model.proofs.Apart.{Apart, Stretch, InRange, Runs, Withins, ends_at, total, each-once}
use Rattle.model.proofs.Clauses.{clauses_pass, passes-clauses}
use Rattle.model.proofs.Columns.{nodes_are, lists_are, length_free}
use Rattle.model.proofs.Counting.{all_slots}
use Rattle.model.proofs.Records.{placed}
use Rattle.model.proofs.Tests.{hit, miss, test}
use Rattle.arena.specs.Decides.{Decides}
use Rattle.arena.proofs.Deciding.{yes}
use Rattle.link_check.specs.EachFrom.{EachFrom}
use Rattle.link_check.specs.declared.Dims.{Dims}
use Rattle.link_check.specs.Shape.{Shape, count_in, height_in, next_in, last_in}
use Rattle.list_check.proofs.Formed.{chain-nodes, NodeForm}
use Rattle.list_check.proofs.ListFacts.{list_in, ListFacts, list-facts, facts-list, formed-chained, formed-low, formed_mid, forms_formed}
use Rattle.arena_check.specs.Headed.{dims_of, free_count, first_free_slot, lengths, LastsDiffer}
use Rattle.arena_check.specs.Whole.{Whole}
use Rattle.arena_check.proofs.FreeClauses.{free_chained, free_node_form, forms_free}
use Rattle.arena_check.proofs.Once.{formed_follows, formed_inside, free_follows, free_inside, free_apart}
use Rattle.arena_check.proofs.SlotLists.{slots, slots_all, times-all, ends-slots, slots_get, length-all, total-slots, total-lengths}
use Rattle.arena_check.proofs.SlotLists.{runs-all, withins-all, other-all, apart-all, lasts_differ}

low_mid : (h : ℕ) (aa : List Node) (y : Node) (ys : List Node) → Low h (aa ++ y ∷ ys) → y.height ≤ h
low_mid h [] y ys l = l.0
low_mid h (a ∷ aa) y ys l = low_mid h aa y ys l.1

module _ (w : List ℕ) where
  abbrev d : Dims
  d = dims_of w

  -- list a, by the cells of its head
  nodes-from : (a : ℕ) → a < d.lists → nodes w a ≡ list_in w d a
  nodes-from a l = nodes_are w a l ∙ chain-nodes w d (count_in w d a) (next_in w d a)

  -- ---- whole words pass ----
  module _ (f : Whole w) where
    abbrev v : Shape w d
    v = f.headed.shape

    facts : (a : ℕ) → a < d.lists → ListFacts w d a
    unfolding EachFrom
    facts a l = list-facts w d v a (f.lists a (omega arith) l)

    within_lists : (a : ℕ) → a < length (decode w).lists → a < d.lists
    within_lists a l = omega (arith, lists_are w)

    runs : Runs (next_in w d) ((decode w).free ∷ slots_all (decode w).lists)
    runs = (
      free_follows w d v (free_count w) (first_free_slot w) f.free,
      runs-all (next_in w d) (decode w).lists (λ a l.
          let k = within_lists a l in
          subst (λ (xs : List Node). Stretch (next_in w d) (slots xs)) (sym (nodes-from a k))
          (formed_follows w d v (count_in w d a) (next_in w d a) (facts a k).formed)),
    )

    withins : Withins d.lists d.room ((decode w).free ∷ slots_all (decode w).lists)
    withins = (
      free_inside w d v (free_count w) (first_free_slot w) f.free,
      withins-all d.lists d.room (decode w).lists (λ a l.
          let k = within_lists a l in
          subst (λ (xs : List Node). InRange d.lists d.room (slots xs)) (sym (nodes-from a k))
          (formed_inside w d v (count_in w d a) (next_in w d a) (facts a k).formed)),
    )

    -- where list a ends
    ends : (a : ℕ) → a < d.lists → ends_at (get_or (slots_all (decode w).lists) a []) ≡ last_in w d a
    ends a l =
        ap ends_at (slots_get (decode w).lists a) ∙ ends-slots (nodes w a) ∙ ap last_slot (nodes-from a l) ∙ sym (facts a l).named

    apart : Apart ((decode w).free ∷ slots_all (decode w).lists)
    unfolding EachFrom LastsDiffer
    apart =
        let lists = (decode w).lists in (
          other-all (ends_at (decode w).free) (slots_all lists) (λ j l e.
              let k = within_lists j (omega (arith, length-all lists)) in
              free_apart w d v (free_count w) (first_free_slot w) (count_in w d j) (next_in w d j) f.free (facts j k).formed
              (e ∙ ends j k ∙ (facts j k).named)),
          apart-all (slots_all lists) (λ i j p l e.
              let kj = within_lists j (omega (arith, length-all lists)) in
              let ki : i < d.lists = omega arith in
              e ∙ ends j kj ∙ f.lasts j (omega arith) kj i (omega arith) p (sym (ends j kj) ∙ sym e ∙ ends i ki)),
        )

    adds_up : total ((decode w).free ∷ slots_all (decode w).lists) ≡ d.room
    unfolding lengths
    adds_up =
        let t = total-lengths w d 0 d.lists in
        let z : 0 + d.lists ≡ d.lists = omega arith in
        omega (arith, rw z at t, length_free d.levels w (free_count w) (first_free_slot w), f.counts)

    once : (s : ℕ) → d.lists ≤ s → s < d.lists + d.room → times_all s (decode w).lists + times_free s (decode w).free ≡ 1
    once s p q =
        omega (
          arith,
          each-once (next_in w d) d.lists d.room ((decode w).free ∷ slots_all (decode w).lists) runs apart withins adds_up s p q,
          times-all s (decode w).lists,
        )

    clauses : Clauses w
    unfolding EachFrom
    clauses = record {
      size = f.headed.shape.size;
      is_mark = f.headed.is_mark;
      is_version = f.headed.is_version;
      ranges = f.headed.shape.ranges;
      last_word = f.headed.last_word;
      chains = λ a l. formed-chained w d (count_in w d a) (next_in w d a) (facts a l).formed;
      lasts = λ a l. (facts a l).named ∙ ap last_slot (sym (nodes-from a l));
      sorted = λ a l. subst Sorted (sym (nodes-from a l)) (facts a l).sorted;
      once = once;
      frees = free_chained w d (free_count w) (first_free_slot w) f.free;
      head_height = λ a l. (facts a l).height;
      node_height = λ a l.
          subst (Low d.levels) (sym (nodes-from a l)) (formed-low w d (count_in w d a) (next_in w d a) (facts a l).formed);
      node_zero = λ a aa y ys l e. (mid a aa y ys l e).0.zero;
      free_form = λ gs g gs' e. let h = free_node_form w d (free_count w) (first_free_slot w) gs g gs' f.free e in (h.zero, h.mark, h.zero_last);
      free_links = λ gs g gs' e l k. (free_node_form w d (free_count w) (first_free_slot w) gs g gs' f.free e).links l (omega arith) k;
      head_links = λ a l i k. subst (λ (xs : List Node). LinkIs d.levels w a i xs) (sym (nodes-from a l)) ((facts a l).links i k);
      links_of_nodes = λ a aa y ys l e i k h. let m = mid a aa y ys l e in m.0.links i (omega (arith, m.1));
      node_absent = λ a aa y ys l e i k h. let m = mid a aa y ys l e in m.0.absent i (omega (arith, m.1)) k;
    }
      where
        mid : (a : ℕ) (aa : List Node) (y : Node) (ys : List Node) → a < d.lists → nodes w a ≡ aa ++ y ∷ ys
            → NodeForm w d y.slot ys × (height_in w d y.slot ≡ y.height)
        mid a aa y ys l e =
            formed_mid w d (count_in w d a) (next_in w d a) aa y ys (facts a l).formed (sym (nodes-from a l) ∙ e)

  -- ---- words that pass are whole ----
  module _ (p : Passes w) where
    c : Clauses w
    c = passes-clauses w p

    pass_counts : free_count w + lengths w d d.lists ≡ d.room
    unfolding lengths
    pass_counts =
        let t = total-lengths w d 0 d.lists in
        let z : 0 + d.lists ≡ d.lists = omega arith in
        omega (
          arith,
          rw z at t,
          length_free d.levels w (free_count w) (first_free_slot w),
          all_slots (decode w) p.sound,
          total-slots (decode w).lists,
        )

    at_most_once : (s : ℕ) → times_all s (decode w).lists ≤ 1
    at_most_once s = elim (test 1 (times_all s (decode w).lists)) [
      | hit e l ↦ omega (arith, (placed (decode w) p.sound s (omega arith)).2)
      | miss e l ↦ omega arith
    ]

    whole : Whole w
    unfolding c EachFrom LastsDiffer
    whole = record {
      headed = record {
        eight = omega (arith, c.size);
        is_mark = c.is_mark;
        is_version = c.is_version;
        last_word = c.last_word;
        shape = record { size = c.size; ranges = c.ranges };
      };
      counts = pass_counts;
      free = forms_free w d (decode w).free
          (λ gs f fs e v. let g = c.free_form gs f fs e in record { slot = v; zero = g.0; mark = g.1; zero_last = g.2; links = λ l o k. c.free_links gs f fs e l k })
          (free_count w) (first_free_slot w) [] refl c.frees;
      lists = λ a o l. facts-list w d (record { size = c.size; ranges = c.ranges }) a (record {
        height = c.head_height a l;
        formed = forms_formed w d (nodes w a) (λ aa y ys e h v. record {
          slot = v;
          low = omega (arith, low_mid d.levels aa y ys (rw e at (c.node_height a l)));
          zero = c.node_zero a aa y ys l e;
          links = λ i k. c.links_of_nodes a aa y ys l e i (omega (arith, low_mid d.levels aa y ys (rw e at (c.node_height a l)))) (omega arith);
          absent = λ i o k. c.node_absent a aa y ys l e i k (omega arith);
        }) (count_in w d a) (next_in w d a) [] (nodes-from a l) (c.chains a l);
        sorted = subst Sorted (nodes-from a l) (c.sorted a l);
        links = λ i k. subst (λ (xs : List Node). LinkIs d.levels w a i xs) (nodes-from a l) (c.head_links a l i k);
        named = c.lasts a l ∙ ap last_slot (nodes-from a l);
      });
      lasts = λ a o l b o' k e.
          let j : b < d.lists = omega arith in
          c.lasts a l ∙ lasts_differ (decode w).lists at_most_once a b k (sym (c.lasts a l) ∙ e ∙ c.lasts b j);
    }

-- ---- the promise ----
pub promise : (w : List ℕ) (r : Bool) → Decides r (Whole w) → CheckPromise w r
promise w r h = record { sound = λ e. clauses_pass w (clauses w (yes h e)); complete = λ p. is_true r (h.complete (whole w p)) }
  where
    is_true : (b : Bool) → T b → b ≡ true
    is_true true t = refl
    is_true false t = absurd t
