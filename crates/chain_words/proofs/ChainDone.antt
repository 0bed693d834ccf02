-- Once the links are those of the new model: the columns 3 to 0 of the head a, of slot e before the place and of slot o, then the header, and the whole.
-- Rests on model's Hang and arena's Relink.
use Prim.Native.Nat.{ℕ, suc, ◌<◌}
use mathlib.Core.Path.{◌≡◌, refl, sym, ap, ◌∙◌}
use mathlib.Core.Logic.{◌≢◌}
use mathlib.Core.List.{List}
use lib.ListN.{length, get_or, set}
use lib.Seq.{take-set-lt}
use native.Mathlib.Omega.{arith}
use Rattle.model.specs.Nodes.{Node}
use Rattle.model.specs.Links.{target}
use Rattle.model.specs.Arena.{State, first_free, record_of, slots_of, header, encode}
use Rattle.model.specs.Cells.{put_at}
use Rattle.model.proofs.Hang.{Hung, Stage, same_0, same_1, same_3}
use Rattle.model.proofs.Owners.{next-column}
use Rattle.model.proofs.Tests.{same, other, same?}
use Rattle.arena.proofs.Cells.{one-stored}
use Rattle.arena.proofs.Relink.{Half, col, stored_col, between-header, relink_end}
use Rattle.chain_words.specs.Chain.{put_chain, put_free}
use Rattle.chain_words.specs.declared.Head.{Head}
use Rattle.chain_words.specs.declared.Record.{Record}

-- a column that changes at x alone
one_col : {S T : State} {fr : List ℕ} {m : ℕ} {w : List ℕ} (k : ℕ) → k < 4 → Half S T fr m (suc k) w → (x v : ℕ) → x < slots_of S
    → ((s : ℕ) → s < slots_of S → s ≢ x → get_or (record_of T s) k 0 ≡ get_or (record_of S s) k 0) → get_or (record_of T x) k 0 ≡ v → Half S T fr m k (put_at m w x k v)
one_col {S} {T} {fr} {m} {w} k l g x v xn alike at_x =
    stored_col
    (one-stored m (slots_of S) (record_of T) w g.between.size k (omega arith) x v xn
    (λ s z p. g.between.below s k z (omega arith) (omega arith) ∙ sym (alike s z p)) at_x)
    l g

module _ {S T : State} {a o : ℕ} {A X Y : List Node} (H : Hung S T a o A X Y) (on : o < slots_of S) {m : ℕ} (em : m ≡ S.levels) {e r : ℕ} (st : Stage H 0 e r) where
  -- what the new model says of the words that are stored
  pub record ChainIs (head : Head) (next : ℕ) (node : Record) : Type 0 where
    pub head_slot : head.slot.0 ≡ a
    pub node_slot : node.slot.0 ≡ o
    pub last : get_or (record_of T a) 3 0 ≡ head.last.0
    pub zero : get_or (record_of T o) 3 0 ≡ get_or (record_of S o) 3 0
    pub next_end : target 0 Y ≡ next
    pub next_node : get_or (record_of T o) 2 0 ≡ node.next.0
    pub height : get_or (record_of T o) 1 0 ≡ node.height
    pub count : get_or (record_of T a) 0 0 ≡ head.count
    pub key : get_or (record_of T o) 0 0 ≡ node.key

  module _ {head : Head} {next : ℕ} {node : Record} (is : ChainIs head next node) {w : List ℕ} (g : Half S T (header S) m 4 w) where
    abbrev w₃ : List ℕ
    w₃ = put_at m w a 3 head.last.0

    abbrev w₂ : List ℕ
    w₂ = put_at m (put_at m w₃ e 2 next) o 2 node.next.0

    abbrev w₁ : List ℕ
    w₁ = put_at m w₂ o 1 node.height

    a_in : a < slots_of S
    a_in = omega (arith, H.list)

    col_3 : Half S T (header S) m 3 w₃
    col_3 =
        one_col 3 (omega arith) g a head.last.0 a_in (λ s l na. elim (same? s o) [ same _ q ↦ rw q is.zero | other _ q ↦ same_3 H s l na q ]) is.last

    col_2 : Half S T (header S) m 2 w₂
    col_2 =
        let column = next-column S.levels in
        col 2 (omega arith) col_3 e next o node.next.0 st.known on (st.same 2 0 column) (st.new 2 0 column ∙ is.next_end) is.next_node refl

    col_1 : Half S T (header S) m 1 w₁
    col_1 = one_col 1 (omega arith) col_2 o node.height on (λ s l no. same_1 H s l no) is.height

    pub chain-done : Half S T (header S) m 0 (put_chain m w head e next node)
    chain-done =
        rw (is.head_slot, is.node_slot)
        (col 0 (omega arith) col_1 a head.count o node.key a_in on (same_0 H) is.count is.key refl)

  pub free_done : {w : List ℕ} → Half S T (header S) m 0 w → (f n : ℕ) → f ≡ first_free T.free → n ≡ length T.free → put_free w f n ≡ encode T
  free_done {w} g f n ef en =
      relink_end H m em (put_free w f n) (between-header 6 n (omega arith) (between-header 5 f (omega arith) g.between))
      (take-set-lt 8 (set w 5 f) 6 n (omega arith) ∙ ap (λ (t : List ℕ). set t 6 n) (take-set-lt 8 w 5 f (omega arith) ∙ ap (λ (t : List ℕ). set t 5 f) g.front)
      ∙ (rw (H.lists, H.levels, H.room, ef, en) refl))
