-- What the words of an arena that passes say at the places that the code reads.
use Prim.Native.Nat.{ℕ, zero, suc, ◌+◌, ◌*◌, ◌≤◌, ◌<◌}
use mathlib.Core.Path.{◌≡◌, refl, sym, ap, ◌∙◌, subst}
use mathlib.Core.List.{List}
use lib.ListN.{length, take, drop, get_or}
use lib.Seq.{split_at}
use native.Mathlib.Nat.{mul-le-mul_right}
use native.Mathlib.Omega.{arith}
use borrow.Author.Tests.{lt-ltb, le-leb}
use Rattle.arena.specs.Owners.{Owner}
use Rattle.model.specs.Arena.{header_words, width, to_column, State, node_words, head_words, first_slot, encode, list_of}
use Rattle.model.specs.Cells.{record_at, cell_at, link_at}
use Rattle.model.specs.Links.{link_of}
use Rattle.model.specs.Nodes.{Node, node, N, slot_at, height_at, at}
use Rattle.model.specs.Passes.{decode, times, Sound, Passes, nodes}
use Rattle.model.proofs.Columns.{cell_record, link_is, length-encode}
use Rattle.model.proofs.Owners.{Column, link_column}
use Rattle.model.proofs.Records.{rec_encode, record_node, placed, times_mid, times_all_ge}

-- the record of an owner of height ht that ys follow
pub record Linked (M ht : ℕ) (ys : List Node) (R : List ℕ) : Type 0 where
  pub next : get_or R 2 0 ≡ first_slot ys
  pub reads : {c : ℕ} {q : ℕ → List Node → ℕ} → Column M c q → get_or R c 0 ≡ q ht ys

module _ (S : State) (v : Sound S) (a : ℕ) (l : a < length S.lists) where
  pub slot_known : (r : ℕ) → r ≤ length (list_of S a) → slot_at a (list_of S a) r < length S.lists + S.room
  slot_known zero k = omega arith
  slot_known (suc i) k =
      let xs = list_of S a in
      let y = at xs i in
      let e = split_at xs i (node N 0 0) k in
      let once : 1 ≤ times y.slot xs = subst (λ (t : List Node). 1 ≤ times y.slot t) (sym e) (times_mid (take i xs) y (drop (suc i) xs)) in
      (placed S v y.slot (omega (arith, times_all_ge y.slot S.lists a, once))).1

  pub node_record : (i : ℕ) → i < length (list_of S a)
      → record_at S.levels (encode S) (at (list_of S a) i).slot ≡ node_words S.levels (at (list_of S a) i) (drop (suc i) (list_of S a))
  node_record i k = record_node S v a (take i (list_of S a)) (at (list_of S a) i) (drop (suc i) (list_of S a)) l (split_at (list_of S a) i (node N 0 0) k)

  owner_record : (r : ℕ) → r ≤ length (list_of S a)
      → Linked S.levels (height_at S.levels (list_of S a) r) (drop r (list_of S a)) (record_at S.levels (encode S) (slot_at a (list_of S a) r))
  owner_record zero k =
      let e : record_at S.levels (encode S) a ≡ head_words S.levels (list_of S a) = rec_encode S a (omega arith) ∙ (rw (lt-ltb a (length S.lists) l) refl) in
      rw e (record { next = refl; reads = λ q. q.head (list_of S a) })
  owner_record (suc i) k = rw (node_record i k) (record { next = refl; reads = λ q. q.node (at (list_of S a) i) (drop (suc i) (list_of S a)) })

module _ (w : List ℕ) (p : Passes w) where
  words_length : length w ≡ 8 + (length (decode w).lists + (decode w).room) * (width (decode w).levels)
  words_length = ap length p.words ∙ length-encode (decode w)

  pub has-header : header_words ≤ length w
  has-header = omega (arith, words_length)

  -- a word of a record is in the slice
  pub fits : (s c : ℕ) → s < length (decode w).lists + (decode w).room → c < width (decode w).levels → 8 + s * (width (decode w).levels) + c < length w
  fits s c l k = omega (arith, words_length, mul-le-mul_right (width (decode w).levels) l)

  -- the words, as the state that they hold
  pub here : (M s : ℕ) → record_at M w s ≡ record_at M (encode (decode w)) s
  here M s = ap (λ (u : List ℕ). record_at M u s) p.words

  module _ (a : ℕ) (l : a < length (decode w).lists) where
    pub key_word : (i : ℕ) → i < length (nodes w a) → get_or (record_at (decode w).levels w (at (nodes w a) i).slot) 0 0 ≡ (at (nodes w a) i).key
    key_word i k =
        ap (λ (R : List ℕ). get_or R 0 0) (here (decode w).levels (at (nodes w a) i).slot ∙ node_record (decode w) p.sound a l i k)

module _ {w : List ℕ} {a r s h : ℕ} (o : Owner w a r s h) where
  pub slot_in_lem : s < length (decode w).lists + (decode w).room
  slot_in_lem = rw o.slot_is (slot_known (decode w) o.passes.sound a o.list r o.within)

  pub linked : Linked (decode w).levels (height_at (decode w).levels (nodes w a) r) (drop r (nodes w a)) (record_at (decode w).levels w s)
  linked = rw (here w o.passes (decode w).levels s, o.slot_is) (owner_record (decode w) o.passes.sound a o.list r o.within)

  pub its_link : (l : ℕ) → suc l ≡ h → link_at (decode w).levels w s l ≡ link_of h (drop r (nodes w a))
  its_link l e =
      let M = (decode w).levels in
      let ys = drop r (nodes w a) in
      link_is M w s l (link_of h ys) refl (λ j q.
      cell_record M w s (to_column l + j) (omega (arith, o.level)) ∙ linked.reads (link_column M l j (omega (arith, o.level)) q)
      ∙ (rw (e, le-leb h (height_at M (nodes w a) r) o.tall) refl))

-- the head's first word is the length
pub length_word : (w : List ℕ) (p : Passes w) (a : ℕ) → a < length (decode w).lists → length (nodes w a) ≡ cell_at (decode w).levels w a 0
length_word w p a l =
    let S = decode w in
    let e : record_at S.levels (encode S) a ≡ head_words S.levels (list_of S a) = rec_encode S a (omega arith) ∙ (rw (lt-ltb a (length S.lists) l) refl) in
    sym (cell_record S.levels w a 0 (omega arith) ∙ ap (λ (R : List ℕ). get_or R 0 0) (here w p S.levels a ∙ e))
