-- The loop of a join before over the levels: those below l have the links that it leaves. Rests on JoinBefore and join's JoinLinks.
use Prim.Native.Nat.{ℕ, suc, ◌+◌, ◌-◌, ◌≤◌, ◌<◌}
use mathlib.Core.Path.{◌≡◌, refl, ap, ◌∙◌}
use mathlib.Core.List.{List}
use lib.ListN.{length, take, get_or}
use native.Mathlib.Omega.{arith}
use Rattle.arena.specs.Linked.{LinkIn, put_link}
use Rattle.arena.specs.Owners.{slot_in, rank_in, Before}
use Rattle.arena.specs.declared.Slot.{Slot}
use Rattle.arena.specs.declared.Rank.{Rank}
use Rattle.model.specs.Arena.{to_column, State, record_of, slots_of}
use Rattle.model.specs.Cells.{cell_at, put_at, link_at}
use Rattle.model.specs.Links.{link_words, absent_link}
use Rattle.model.specs.Nodes.{N}
use Rattle.model.specs.Passes.{decode, nodes}
use Rattle.join.specs.Joins.{Joins}
use Rattle.join_before.specs.Preceded.{do_join_before, link_before, next_before}
use Rattle.level_links.specs.OneLevel.{farther_link}
use Rattle.arena.proofs.Cells.{Stored, between_up}
use Rattle.arena.proofs.Relink.{Relinked, relink_start, link_there}
use Rattle.model.proofs.Columns.{link_field}
use Rattle.model.proofs.Owners.{link_column}
use Rattle.join_before.proofs.HeadMoves.{HeadMoves, head_moved}
use Rattle.join_before.proofs.JoinBefore.{head_moves}
use Rattle.join.proofs.JoinLinks.{small, b_in, last-owner, now-hung}

-- the stores of one level, and of next
pub level_stored : (m l s a b k : ℕ) (w : List ℕ) {i h c u v x : List ℕ} → i ≡ link_at m w a l → h ≡ farther_link k i → u ≡ put_link m w s l h
    → c ≡ link_at m u b l → v ≡ put_link m u a l c → x ≡ put_link m v b l absent_link → x ≡ link_before m w l s (farther_link k (link_at m w a l)) a b
level_stored m l s a b k w ei eh eu ec ev ex = ex ∙ (rw (ev, ec, eu, eh, ei) refl)

pub next-stored : (m s v a b : ℕ) (w : List ℕ) {u x : List ℕ} {c : ℕ} → u ≡ put_at m w s 2 v → c ≡ cell_at m u b 2 → x ≡ put_at m (put_at m u a 2 c) b 2 N
    → x ≡ next_before m w s v a b
next-stored m s v a b w eu ec ex = cc

module _ {w₀ : List ℕ} {m a b : ℕ} (p : Joins w₀ m b a) where
  abbrev S : State
  S = decode w₀

  abbrev T : State
  T = do_join_before S a b

  -- the links of the levels below l are as after the join before
  abbrev pub BeforeLevels : ℕ → List ℕ → Type 0
  BeforeLevels l w = Relinked S T (take 8 w₀) m l w

  pub no_level : BeforeLevels 0 w₀
  no_level = relink_start w₀ p.onto.passes T m p.onto.levels

  bn : b < slots_of S
  bn = omega (arith, p.onto.list)

  module _ {n : ℕ} (en : n ≡ length (nodes w₀ b)) {slots : List Slot} {ranks : List Rank} (q : Before w₀ m b (length (nodes w₀ b)) slots ranks)
      {l : ℕ} (k : l < m) {w : List ℕ} (g : BeforeLevels l w) where
    abbrev s : ℕ
    s = slot_in slots l

    abbrev r : ℕ
    r = rank_in ranks l

    pub b_link_in : LinkIn w m b l
    b_link_in = link_there m (slots_of S) (small p) w g.between b l bn k

    abbrev hung : List ℕ
    hung = farther_link (n - r) (link_at m w a l)

    moves : HeadMoves S T s a b (to_column l) hung absent_link
    moves =
        let lm : suc l ≤ S.levels = omega (arith, p.onto.levels) in
        head_moves p (last-owner p en q k) lm (to_column l) hung absent_link (λ j f. link_column S.levels l j lm f)
        (λ j f. ap (λ (i : List ℕ). get_or i j 0) (now-hung p en q k g)) (λ j f. refl)

    stored : Stored m (slots_of S) (record_of T) (to_column l) (to_column l + link_words) w (link_before m w l s hung a b)
    unfolding put_link
    stored =
        let u = put_link m w s l hung in
        head_moved moves (last-owner p en q k).known (b_in p) bn m (omega arith) w g.between.size
        (λ i j x f. g.between.above i (to_column l + j) x (omega arith) (omega arith)) (link_at m u b l) refl refl (λ j f. link_field m u b l j f)

    pub next_level : {x : List ℕ} → x ≡ link_before m w l s hung a b → BeforeLevels (l + 1) x
    next_level ex = rw ex (record { front = stored.front ∙ g.front; between = between_up stored (omega arith) (omega arith) refl (omega arith) g.between })
