-- The loop of a split over the levels: those below l have the links that the split leaves. Rests on model's Splitting and arena's Relink.
use Prim.Native.Nat.{ℕ, suc, ◌+◌, ◌-◌, ◌≤◌, ◌<◌}
use mathlib.Core.Path.{◌≡◌, refl, sym, ap, ◌∙◌}
use mathlib.Core.List.{List, []}
use lib.ListN.{length, take, drop, get_or}
use lib.Seq.{length-take-le}
use native.Mathlib.Omega.{arith}
use borrow.Author.Tests.{le-leb}
use Rattle.arena.specs.Linked.{LinkIn, put_link}
use Rattle.arena.specs.Owners.{slot_in, rank_in, Before}
use Rattle.arena.specs.declared.Slot.{Slot}
use Rattle.arena.specs.declared.Rank.{Rank}
use Rattle.level_links.specs.OneLevel.{nearer_link}
use Rattle.model.specs.Arena.{to_column, State, record_of, slots_of}
use Rattle.model.specs.Calls.{do_split}
use Rattle.model.specs.Cells.{link_at}
use Rattle.model.specs.Links.{link_of, absent_link}
use Rattle.model.specs.Nodes.{Node, slot_at}
use Rattle.model.specs.Passes.{decode, nodes}
use Rattle.model.specs.Closed.{last}
use Rattle.split.specs.Splits.{Splits}
use Rattle.arena.proofs.Relink.{LinkOf, Relinked, relink_start, link_s, link_o, old_link, relinked}
use Rattle.level_links.proofs.LinkChanges.{nearer_from}
use Rattle.model.proofs.Hang.{Hung, Stage, stage_is}
use Rattle.model.proofs.Owners.{link_from, link_column}
use Rattle.model.proofs.Splitting.{SplitLike, hung-split, b-T, split_like, slot-take}
use Rattle.model.proofs.Walk.{last_le}

-- the stores of one level
pub link_moved : (m l s b k : ℕ) (w : List ℕ) {i i' u x : List ℕ} → i ≡ link_at m w s l → i' ≡ nearer_link k i
    → u ≡ put_link m w s l absent_link → x ≡ put_link m u b l i' → x ≡ put_link m (put_link m w s l absent_link) b l (nearer_link k (link_at m w s l))
link_moved m l s b k w ei ek eu ex = ex ∙ (rw (eu, ek, ei) refl)

module _ {w₀ : List ℕ} {m a b i : ℕ} (p : Splits w₀ m a b i) where
  abbrev S : State
  S = decode w₀

  abbrev T : State
  T = do_split S a b i

  abbrev A : List Node
  A = take i (nodes w₀ a)

  abbrev B : List Node
  B = drop i (nodes w₀ a)

  pub like : SplitLike S S.lists T.lists a b A B
  like = split_like S p.from.passes.sound a b i p.from.list p.to.list p.apart p.empty

  abbrev pub H : Hung S T a b A B []
  H = hung-split like

  small : m ≤ 16
  small = omega (arith, p.from.levels, p.from.passes.sizes.levels_most)

  pub b_in : b < slots_of S
  b_in = omega (arith, p.to.list)

  pub length-A : length A ≡ i
  length-A = length-take-le i (nodes w₀ a) p.within

  pub stage_of : (h s r : ℕ) → h ≤ m → r ≡ last h A → s ≡ slot_at a (nodes w₀ a) r → Stage H h s r
  stage_of h s r l er es =
      stage_is H h (omega (arith, p.from.levels)) s r er (es ∙ sym (slot-take a i (nodes w₀ a) r (omega (arith, er, last_le h A, length-A))))

  -- the links of the levels below l are as after the split
  abbrev pub SplitLevels : ℕ → List ℕ → Type 0
  SplitLevels l w = Relinked S T (take 8 w₀) m l w

  pub no_level : SplitLevels 0 w₀
  no_level = relink_start w₀ p.from.passes T m p.from.levels

  module _ {slots : List Slot} {ranks : List Rank} (q : Before w₀ m a i slots ranks) {l : ℕ} {w : List ℕ} (g : SplitLevels l w) (k : l < m)
      {place : ℕ} (ep : place ≡ i) where
    abbrev s : ℕ
    s = slot_in slots l

    abbrev r : ℕ
    r = rank_in ranks l

    st : Stage H (suc l) s r
    st = stage_of (suc l) s r (omega arith) (q.rank l k) (q.slot l k)

    pub rank_le : r ≤ place
    rank_le = omega (arith, st.within, length-A)

    pub both_links : LinkIn w m s l × LinkIn w m b l
    both_links = (link_s H b_in p.from.levels small g k st, link_o H b_in p.from.levels small g k st)

    -- the receiving head takes the link over
    b_link : LinkOf (record_of T) l b (nearer_link (place - r) (link_at m w s l))
    b_link j f =
        let lm : l < S.levels = omega (arith, p.from.levels) in
        let n : length A - r ≡ place - r = omega (arith, length-A) in
        let e : nearer_link (place - r) (link_at m w s l) ≡ link_of (suc l) B
        = ap (nearer_link (place - r)) (old_link H b_in p.from.levels small g k st ∙ ap (λ (x : ℕ). link_from x (suc l) B) n) ∙ nearer_from (place - r) (suc l) B in
        ap (λ (R : List ℕ). get_or R (to_column l + j) 0) (b-T like) ∙ (link_column S.levels l j lm f).head B
        ∙ (rw (le-leb (suc l) S.levels lm) (ap (λ (k : List ℕ). get_or k j 0) (sym e)))

    pub next_level : {x : List ℕ} → x ≡ put_link m (put_link m w s l absent_link) b l (nearer_link (place - r) (link_at m w s l)) → SplitLevels (l + 1) x
    next_level {x} ex = relinked H b_in p.from.levels small g k st absent_link refl (nearer_link (place - r) (link_at m w s l)) refl b_link x ex
