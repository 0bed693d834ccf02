-- A join is a split turned round. Its loop over the levels: those below l have the links that the join leaves.
-- Rests on model's Splitting, arena's Relink and level_links' LinkChanges.
use Prim.Native.Nat.{ℕ, suc, ◌+◌, ◌-◌, ◌≤◌, ◌<◌}
use mathlib.Core.Path.{◌≡◌, refl, sym, ap, ◌∙◌}
use mathlib.Core.List.{List, [], ◌++◌}
use lib.ListN.{length, take, get_or, set, length-set}
use lib.Seq.{get_or-set_same, get_or-set_other, lt-length-set, take_all}
use native.Mathlib.Omega.{arith}
use borrow.Author.Tests.{le-leb}
use Rattle.arena.specs.Linked.{put_link}
use Rattle.arena.specs.Owners.{slot_in, rank_in, Before, Listed}
use Rattle.arena.specs.declared.Slot.{Slot}
use Rattle.arena.specs.declared.Rank.{Rank}
use Rattle.model.specs.Arena.{to_column, far_column, State, list_of, record_of, slots_of}
use Rattle.model.specs.Closed.{do_join, last}
use Rattle.model.specs.Cells.{Cell, cell_at, link_at}
use Rattle.model.specs.Links.{distance, link_of, absent_link}
use Rattle.model.specs.Nodes.{Node, slot_at, Low}
use Rattle.model.specs.Passes.{decode, nodes}
use Rattle.join.specs.Joins.{Joins, LevelJoins}
use Rattle.arena.proofs.Relink.{LinkOf, Relinked, relink_start, there, link_there, relinked}
use Rattle.level_links.specs.OneLevel.{farther_link}
use Rattle.level_links.proofs.LinkChanges.{farther_of}
use Rattle.model.proofs.Columns.{link_is}
use Rattle.model.proofs.Counting.{list_few}
use Rattle.model.proofs.Hang.{Hung, Stage, stage_is, flip, head_S}
use Rattle.model.proofs.Keeps.{sound_put2, low-append, times-append, each_get}
use Rattle.model.proofs.Owners.{link_from, link_column}
use Rattle.model.proofs.Records.{head_words_lem}
use Rattle.model.proofs.Splitting.{SplitLike, hung-split, b-S}
use Rattle.model.proofs.Steps.{distance_le}

-- the stores of one level
pub link_hung : (m l s b k : ℕ) (w : List ℕ) {i h u x : List ℕ} → i ≡ link_at m w b l → h ≡ farther_link k i → u ≡ put_link m w s l h → x ≡ put_link m u b l absent_link
    → x ≡ put_link m (put_link m w s l (farther_link k (link_at m w b l))) b l absent_link
link_hung m l s b k w ei eh eu ex = ex ∙ (rw (eu, eh, ei) refl)

-- ---- the head of list b, where level l is as it was ----
module _ {w₀ : List ℕ} {m b : ℕ} (p : Listed w₀ m b) {T : State} {fr : List ℕ} {l : ℕ} {w : List ℕ} (g : Relinked (decode w₀) T fr m l w) (k : l < m) where
  abbrev M : ℕ
  M = (decode w₀).levels

  pub head_link : link_at m w b l ≡ link_of (suc l) (nodes w₀ b)
  head_link =
      let lm : l < M = omega (arith, p.levels) in
      link_is m w b l (link_of (suc l) (nodes w₀ b)) refl (λ j q.
      g.between.above b (to_column l + j) (omega (arith, p.list)) (omega arith) (omega arith)
      ∙ ap (λ (R : List ℕ). get_or R (to_column l + j) 0) (head_words_lem (decode w₀) b p.list)
      ∙ (link_column M l j lm q).head (nodes w₀ b) ∙ (rw (le-leb (suc l) M lm) refl))

  pub head_fits : {n : ℕ} → n ≤ 65535 → cell_at m w b (far_column l) + n < 4294967296
  head_fits x =
      let far : cell_at m w b (far_column l) ≡ distance (suc l) (nodes w₀ b) = ap (λ (k : List ℕ). get_or k 1 0) head_link in
      omega (arith, far, distance_le (suc l) (nodes w₀ b), list_few (decode w₀) p.passes.sound b, p.passes.sizes.room_most)

-- ---- list b is hung behind list a ----
module _ {w₀ : List ℕ} {m a b : ℕ} (p : Joins w₀ m a b) where
  abbrev S : State
  S = decode w₀

  abbrev T : State
  T = do_join S a b

  abbrev A : List Node
  A = nodes w₀ a

  abbrev B : List Node
  B = nodes w₀ b

  low_of : (z : ℕ) → Low S.levels (list_of S z)
  low_of z = each_get (Low S.levels) S.lists z tt p.onto.passes.sound.low

  -- split, what comes gives what is there
  pub like : SplitLike S T.lists S.lists a b A B
  like =
      let ls = set S.lists a (A ++ B) in
      record {
        sound_S = sound_put2 S a b (A ++ B) [] p.onto.list p.from.list p.apart p.onto.passes.sound p.sorted
            (low-append S.levels A B (low_of a) (low_of b)) tt tt (λ s. omega (arith, times-append s A B));
        sound_T = p.onto.passes.sound;
        lists = length-set ls b [] ∙ length-set S.lists a (A ++ B);
        list_a = lt-length-set ls b [] (lt-length-set S.lists a (A ++ B) p.onto.list);
        list_b = lt-length-set ls b [] (lt-length-set S.lists a (A ++ B) p.from.list);
        apart = p.apart;
        S-a = get_or-set_other ls b a [] [] p.apart ∙ get_or-set_same S.lists a (A ++ B) [] p.onto.list;
        S-b = get_or-set_same ls b [] [] (lt-length-set S.lists a (A ++ B) p.from.list);
        T-a = refl;
        T-b = refl;
        others = λ z na nb. sym (get_or-set_other ls b z [] [] nb ∙ get_or-set_other S.lists a z (A ++ B) [] na);
      }

  pub H : Hung S T a b A [] B
  H = flip (hung-split like)

  pub small : m ≤ 16
  small = omega (arith, p.onto.levels, p.onto.passes.sizes.levels_most)

  -- both lists stand in the room
  pub few : (length A ≤ 65535) × (length B ≤ 65535)
  few =
      let r = p.onto.passes.sizes.room_most in
      (omega (arith, r, list_few S p.onto.passes.sound a), omega (arith, r, list_few S p.onto.passes.sound b))

  pub b_in : b < slots_of S
  b_in = omega (arith, p.from.list)

  pub stage_of : (h s r : ℕ) → h ≤ m → r ≡ last h (take (length A) A) → s ≡ slot_at a A r → Stage H h s r
  stage_of h s r l er es = stage_is H h (omega (arith, p.onto.levels)) s r (er ∙ ap (last h) (take_all (length A) A (omega arith))) es

  -- the links of the levels below l are as after the join
  abbrev pub JoinLevels : ℕ → List ℕ → Type 0
  JoinLevels l w = Relinked S T (take 8 w₀) m l w

  pub no_level : JoinLevels 0 w₀
  no_level = relink_start w₀ p.onto.passes T m p.onto.levels

  pub count_cell : Cell w₀ m a 0
  count_cell = there m (slots_of S) small w₀ no_level.between a 0 (omega (arith, p.onto.list)) (omega arith)

  pub count_is : {n : ℕ} → n ≡ cell_at m w₀ a 0 → n ≡ length A
  count_is e =
      e ∙ no_level.between.below a 0 (omega (arith, p.onto.list)) (omega arith) (omega arith)
      ∙ ap (λ (R : List ℕ). get_or R 0 0) (head_S H) ∙ sym (ap length H.is_S)

  module _ {n : ℕ} (en : n ≡ length A) {slots : List Slot} {ranks : List Rank} (q : Before w₀ m a (length A) slots ranks) {l : ℕ} (k : l < m) where
    abbrev s : ℕ
    s = slot_in slots l

    abbrev r : ℕ
    r = rank_in ranks l

    pub last-owner : Stage H (suc l) s r
    last-owner = stage_of (suc l) s r (omega arith) (q.rank l k) (q.slot l k)

    pub rank_le : r ≤ n
    rank_le = omega (arith, last-owner.within, en)

    -- in words of any model between
    module _ {Z : State} {w : List ℕ} (g : Relinked S Z (take 8 w₀) m l w) where
      pub level_joins : LevelJoins w m l s b (n - r)
      level_joins = record {
        end = link_there m (slots_of S) small w g.between s l last-owner.known k;
        head = link_there m (slots_of S) small w g.between b l b_in k;
        fits = head_fits p.from g k (omega (arith, few.0, en));
      }

      pub now-hung : farther_link (n - r) (link_at m w b l) ≡ link_from (length A - r) (suc l) B
      now-hung = ap (farther_link (n - r)) (head_link p.from g k) ∙ farther_of (n - r) (suc l) B ∙ ap (λ (x : ℕ). link_from (x - r) (suc l) B) en

    module _ {w : List ℕ} (g : JoinLevels l w) where
      b_link : LinkOf (record_of T) l b absent_link
      b_link j f =
          let lm : l < S.levels = omega (arith, p.onto.levels) in
          ap (λ (R : List ℕ). get_or R (to_column l + j) 0) (b-S like) ∙ (link_column S.levels l j lm f).head [] ∙ (rw (le-leb (suc l) S.levels lm) refl)

      pub next_level : {x : List ℕ} → x ≡ put_link m (put_link m w s l (farther_link (n - r) (link_at m w b l))) b l absent_link → JoinLevels (l + 1) x
      next_level {x} ex =
          relinked H b_in p.onto.levels small g k last-owner (farther_link (n - r) (link_at m w b l)) (now-hung g) absent_link refl b_link x ex
