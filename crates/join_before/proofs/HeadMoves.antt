-- Columns in which words go to slot s, then the words of slot b to slot a, and slot b is left without: what changes from one model to the other,
-- and what the stores leave. A link's columns are such, and next is. Rests on arena's Cells.
use Prim.Native.Nat.{ℕ, ◌+◌, ◌-◌, ◌*◌, ◌≤◌, ◌<◌}
use mathlib.Core.Path.{◌≡◌, sym, ap, ◌∙◌}
use mathlib.Core.Logic.{◌≢◌}
use mathlib.Core.List.{List}
use lib.ListN.{length, get_or}
use native.Mathlib.Nat.{mul-le-mul_right}
use native.Mathlib.Omega.{arith}
use Rattle.model.specs.Arena.{width, State, record_of, slots_of}
use Rattle.model.specs.Cells.{cell_at}
use Rattle.arena.specs.Linked.{put_row}
use Rattle.arena.proofs.Cells.{row_size, row-front, row_same, row_other, rows_stored, Stored}
use Rattle.model.proofs.Tests.{same, other, same?}

-- the columns from k on change at s, a and b alone: `vs` is hung at s, and a takes what b has once `vs` is hung
pub record HeadMoves (S T : State) (s a b k : ℕ) (vs zs : List ℕ) : Type 0 where
  pub alike : (i j : ℕ) → i < slots_of S → j < length vs → i ≢ s → i ≢ a → i ≢ b → get_or (record_of T i) (k + j) 0 ≡ get_or (record_of S i) (k + j) 0
  pub hung : (j : ℕ) → j < length vs → s ≢ b → get_or (record_of T s) (k + j) 0 ≡ get_or vs j 0
  pub moved : (j : ℕ) → j < length vs → s ≢ b → get_or (record_of T a) (k + j) 0 ≡ get_or (record_of S b) (k + j) 0
  pub both : (j : ℕ) → j < length vs → s ≡ b → get_or (record_of T a) (k + j) 0 ≡ get_or vs j 0
  pub gone : (j : ℕ) → j < length vs → get_or (record_of T b) (k + j) 0 ≡ get_or zs j 0

module _ {S T : State} {s a b k : ℕ} {vs zs : List ℕ} (x : HeadMoves S T s a b k vs zs) (sn : s < slots_of S) (an : a < slots_of S) (bn : b < slots_of S)
    (m : ℕ) (kw : k + length vs ≤ width m) (w : List ℕ) (size : length w ≡ 8 + slots_of S * (width m))
    (old : (i j : ℕ) → i < slots_of S → j < length vs → cell_at m w i (k + j) ≡ get_or (record_of S i) (k + j) 0) where
  abbrev u : List ℕ
  u = put_row m w s k vs

  at-s : (j : ℕ) → j < length vs → cell_at m u s (k + j) ≡ get_or vs j 0
  at-s j l = row_same m s w k vs j kw (omega (arith, size, mul-le-mul_right (width m) sn)) l

  off_s : (i j : ℕ) → i < slots_of S → j < length vs → i ≢ s → cell_at m u i (k + j) ≡ get_or (record_of S i) (k + j) 0
  off_s i j n l ns = row_other m s w k vs i (k + j) kw (omega arith) (λ p _ _. ns (sym p)) ∙ old i j n l

  -- us is what b has once vs is hung
  module _ (us : List ℕ) (len : length us ≡ length vs) (len' : length zs ≡ length vs) (at_b : (j : ℕ) → j < length vs → get_or us j 0 ≡ cell_at m u b (k + j)) where
    at_a : (j : ℕ) → j < length us → get_or (record_of T a) (k + j) 0 ≡ get_or us j 0
    at_a j l =
        let q : j < length vs = omega arith in
        elim (same? s b) [
          | same e f ↦ x.both j q f ∙ sym (at_b j q ∙ ap (λ (i : ℕ). cell_at m u i (k + j)) (sym f) ∙ at-s j q)
          | other e f ↦ x.moved j q f ∙ sym (at_b j q ∙ off_s b j bn q (λ p. f (sym p)))
        ]

    kept_field : (i j : ℕ) → i < slots_of S → j < length vs → i ≢ a → i ≢ b → cell_at m u i (k + j) ≡ get_or (record_of T i) (k + j) 0
    kept_field i j n l na nb = elim (same? i s) [
      | same e q ↦ rw q (at-s j l ∙ sym (x.hung j l (λ p. nb (q ∙ p))))
      | other e q ↦ off_s i j n l q ∙ sym (x.alike i j n l q na nb)
    ]

    kept : (i d : ℕ) → i < slots_of S → i ≢ a → i ≢ b → k ≤ d → d < k + length vs → cell_at m u i d ≡ get_or (record_of T i) d 0
    kept i d n na nb lo hi = let e : d ≡ k + (d - k) = omega arith in rw e (kept_field i (d - k) n (omega arith) na nb)

    pub head_moved : Stored m (slots_of S) (record_of T) k (k + length vs) w (put_row m (put_row m u a k us) b k zs)
    head_moved =
        let y = rows_stored m (slots_of S) (record_of T) k (k + length vs) kw u (row_size m s w k vs ∙ size) a us b zs (omega arith) (omega arith) an bn
        kept at_a (λ j l. x.gone j (omega arith)) in
        record {
          size = y.size ∙ row_size m s w k vs;
          front = y.front ∙ row-front m s w k vs;
          others = λ i d l out. y.others i d l out ∙ row_other m s w k vs i d kw l (λ _ p q. out p q);
          column = y.column;
        }
