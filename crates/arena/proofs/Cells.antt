-- Words by slot and column: a store, two stores in one column, and from columns to the words of a state.
use Prim.Native.Nat.{ℕ, zero, suc, ◌+◌, ◌-◌, ◌*◌, ◌≤◌, ◌<◌}
use mathlib.Core.Path.{◌≡◌, refl, sym, ap, ap₂, ◌∙◌}
use mathlib.Core.Logic.{◌≢◌}
use mathlib.Core.List.{List, [], ◌∷◌, ◌++◌}
use lib.ListN.{length, take, drop, get_or, length-set, take-append-drop, length-drop}
use lib.Seq.{get_or-set_same, get_or-set_other, take-set-le, ext_get_or, drop-drop, length-take-le}
use native.Mathlib.Nat.{mul-le-mul_right, zero-add, add-zero, not-suc-le-zero}
use native.Mathlib.Omega.{arith}
use Rattle.arena.specs.Linked.{put_row}
use Rattle.arena.specs.Between.{Between}
use Rattle.model.specs.Arena.{width, State, record_of, header, encode, slots_of}
use Rattle.model.specs.Cells.{record_at, cell_at, put_at}
use Rattle.model.specs.Passes.{decode, Passes}
use Rattle.arena.proofs.Places.{here}
use Rattle.model.proofs.Builds.{recs_build}
use Rattle.model.proofs.Columns.{cell_record, length-encode}
use Rattle.model.proofs.Records.{rec_encode, length_record}
use Rattle.model.proofs.Tests.{hit, miss, test, same, other, same?}

index_apart : (W s z c d : ℕ) → c < W → d < W → 8 + s * W + c ≡ 8 + z * W + d → (s ≡ z) × (c ≡ d)
index_apart W s z c d l k e = elim (test (suc s) z) [
  | hit f p ↦ absurd (omega (arith, mul-le-mul_right W p))
  | miss f p ↦ elim (test (suc z) s) [
    | hit g q ↦ absurd (omega (arith, mul-le-mul_right W q))
    | miss g q ↦ let h : s ≡ z = omega arith in (h, omega (arith, rw h at e))
  ]
]

pub cell_same : (M : ℕ) (w : List ℕ) (s c v : ℕ) → 8 + s * (width M) + c < length w → cell_at M (put_at M w s c v) s c ≡ v
unfolding cell_at put_at
cell_same M w s c v l = get_or-set_same w (8 + s * (width M) + c) v 0 l

pub cell_other : (M : ℕ) (w : List ℕ) (s c v z d : ℕ) → c < width M → d < width M → (s ≡ z → c ≡ d → ⊥) → cell_at M (put_at M w s c v) z d ≡ cell_at M w z d
unfolding cell_at put_at
cell_other M w s c v z d l k ne =
    get_or-set_other w (8 + s * (width M) + c) (8 + z * (width M) + d) v 0
    (λ e. let p = index_apart (width M) s z c d l k (sym e) in ne p.0 p.1)

pub put_size : (M : ℕ) (w : List ℕ) (s c v : ℕ) → length (put_at M w s c v) ≡ length w
unfolding put_at
put_size M w s c v = length-set w (8 + s * (width M) + c) v

pub put_front : (M : ℕ) (w : List ℕ) (s c v : ℕ) → take 8 (put_at M w s c v) ≡ take 8 w
unfolding put_at
put_front M w s c v = take-set-le 8 w (8 + s * (width M) + c) v (omega arith)

pub in_words : (M n : ℕ) (w : List ℕ) → length w ≡ 8 + n * (width M) → (s c : ℕ) → s < n → c < width M → 8 + s * (width M) + c < length w
in_words M n w e s c l k = omega (arith, mul-le-mul_right (width M) l)

-- ---- words stored side by side in the record of slot s, from column c on ----
module _ (M s : ℕ) where
  pub row_size : (w : List ℕ) (c : ℕ) (ks : List ℕ) → length (put_row M w s c ks) ≡ length w
  row_size w c [] = refl
  row_size w c (v ∷ vs) = row_size (put_at M w s c v) (suc c) vs ∙ put_size M w s c v

  pub row-front : (w : List ℕ) (c : ℕ) (ks : List ℕ) → take 8 (put_row M w s c ks) ≡ take 8 w
  row-front w c [] = refl
  row-front w c (v ∷ vs) = row-front (put_at M w s c v) (suc c) vs ∙ put_front M w s c v

  pub row_other : (w : List ℕ) (c : ℕ) (ks : List ℕ) (z d : ℕ) → c + length ks ≤ width M → d < width M → (s ≡ z → c ≤ d → d < c + length ks → ⊥)
      → cell_at M (put_row M w s c ks) z d ≡ cell_at M w z d
  row_other w c [] z d l k ne = refl
  row_other w c (v ∷ vs) z d l k ne =
      row_other (put_at M w s c v) (suc c) vs z d (omega arith) k (λ e p q. ne e (omega arith) (omega arith))
      ∙ cell_other M w s c v z d (omega arith) k (λ e p. ne e (omega arith) (omega arith))

  pub row_same : (w : List ℕ) (c : ℕ) (ks : List ℕ) (j : ℕ) → c + length ks ≤ width M → 8 + s * (width M) + width M ≤ length w → j < length ks
      → cell_at M (put_row M w s c ks) s (c + j) ≡ get_or ks j 0
  row_same w c [] j l i p = absurd (not-suc-le-zero p)
  row_same w c (v ∷ vs) zero l i p =
      rw (add-zero c)
      (row_other (put_at M w s c v) (suc c) vs s c (omega arith) (omega arith) (λ e p q. omega arith) ∙ cell_same M w s c v (omega arith))
  row_same w c (v ∷ vs) (suc j) l i p =
      let e : c + suc j ≡ suc c + j = omega arith in
      rw e (row_same (put_at M w s c v) (suc c) vs j (omega arith) (rw (put_size M w s c v) i) (omega arith))

-- the columns from k up to e alone, of n records, are stored, and are as f says
pub record Stored (M n : ℕ) (f : ℕ → List ℕ) (k e : ℕ) (w u : List ℕ) : Type 0 where
  pub size : length u ≡ length w
  pub front : take 8 u ≡ take 8 w
  pub others : (s d : ℕ) → d < width M → (k ≤ d → d < e → ⊥) → cell_at M u s d ≡ cell_at M w s d
  pub column : (s d : ℕ) → s < n → k ≤ d → d < e → cell_at M u s d ≡ get_or (f s) d 0

module _ {M n : ℕ} {f g : ℕ → List ℕ} {k e : ℕ} {w u : List ℕ} (x : Stored M n f k e w u) where
  -- the columns so far are those from lo to k; now up to e
  pub between_up : {lo hi hi' : ℕ} → lo ≤ k → k ≤ e → hi ≡ k → hi' ≡ e → Between M n f g lo hi w → Between M n f g lo hi' u
  between_up lk ke q q' m = record {
    size = x.size ∙ m.size;
    new = λ s c l j a b. elim (test (suc c) k) [
      | hit t r ↦ x.others s c j (λ y z. omega arith) ∙ m.new s c l j a (omega arith)
      | miss t r ↦ x.column s c l (omega arith) (omega arith)
    ];
    below = λ s c l j a. x.others s c j (λ y z. omega arith) ∙ m.below s c l j a;
    above = λ s c l j a. x.others s c j (λ y z. omega arith) ∙ m.above s c l j (omega arith);
  }

  -- the columns so far are those from e to hi; now from k on
  pub between-down : {lo hi : ℕ} → k ≤ e → e ≤ hi → lo ≡ e → Between M n f g lo hi w → Between M n f g k hi u
  between-down ke eh q m = record {
    size = x.size ∙ m.size;
    new = λ s c l j a b. elim (test (suc c) e) [
      | hit t r ↦ x.column s c l (omega arith) (omega arith)
      | miss t r ↦ x.others s c j (λ y z. omega arith) ∙ m.new s c l j (omega arith) b
    ];
    below = λ s c l j a. x.others s c j (λ y z. omega arith) ∙ m.below s c l j (omega arith);
    above = λ s c l j a. x.others s c j (λ y z. omega arith) ∙ m.above s c l j a;
  }

-- ---- a row stored at slot x, or one at x and one at y: the columns are as f says, where they were so elsewhere ----
module _ (M n : ℕ) (f : ℕ → List ℕ) (k e : ℕ) (ew : e ≤ width M) where
  pub row-stored : (w : List ℕ) → length w ≡ 8 + n * (width M) → (x : ℕ) (ks : List ℕ) → e ≡ k + length ks → x < n
      → ((s d : ℕ) → s < n → s ≢ x → k ≤ d → d < e → cell_at M w s d ≡ get_or (f s) d 0) → ((j : ℕ) → j < length ks → get_or (f x) (k + j) 0 ≡ get_or ks j 0)
      → Stored M n f k e w (put_row M w x k ks)
  row-stored w size x ks q xn kept at_x = record {
    size = row_size M x w k ks;
    front = row-front M x w k ks;
    others = λ s d l out. row_other M x w k ks s d (omega arith) l (λ _ a b. out a (omega arith));
    column = λ s d l a b. elim (same? s x) [
      | same z i ↦
          let g : d ≡ k + (d - k) = omega arith in
          let j : d - k < length ks = omega arith in
          rw (i, g) (row_same M x w k ks (d - k) (omega arith) (omega (arith, size, mul-le-mul_right (width M) xn)) j ∙ sym (at_x (d - k) j))
      | other z i ↦ row_other M x w k ks s d (omega arith) (omega arith) (λ r _ _. i (sym r)) ∙ kept s d l i a b
    ];
  }

  pub rows_stored : (w : List ℕ) → length w ≡ 8 + n * (width M) → (x : ℕ) (ks : List ℕ) (y : ℕ) (js : List ℕ) → e ≡ k + length ks → e ≡ k + length js → x < n → y < n
      → ((s d : ℕ) → s < n → s ≢ x → s ≢ y → k ≤ d → d < e → cell_at M w s d ≡ get_or (f s) d 0) → ((j : ℕ) → j < length ks → get_or (f x) (k + j) 0 ≡ get_or ks j 0)
      → ((j : ℕ) → j < length js → get_or (f y) (k + j) 0 ≡ get_or js j 0) → Stored M n f k e w (put_row M (put_row M w x k ks) y k js)
  rows_stored w size x ks y js q q' xn yn kept at_x at_y =
      let u = put_row M w x k ks in
      let second = row-stored u (row_size M x w k ks ∙ size) y js q' yn
      (λ s d l ny a b. elim (same? s x) [
        | same z i ↦
            let g : d ≡ k + (d - k) = omega arith in
            let j : d - k < length ks = omega arith in
            rw (i, g) (row_same M x w k ks (d - k) (omega arith) (omega (arith, size, mul-le-mul_right (width M) xn)) j ∙ sym (at_x (d - k) j))
        | other z i ↦ row_other M x w k ks s d (omega arith) (omega arith) (λ r _ _. i (sym r)) ∙ kept s d l i ny a b
      ]) at_y in
      record {
        size = second.size ∙ row_size M x w k ks;
        front = second.front ∙ row-front M x w k ks;
        others = λ s d l out. second.others s d l out ∙ row_other M x w k ks s d (omega arith) l (λ _ a b. out a (omega arith));
        column = second.column;
      }

-- ---- one column ----
-- a column in which f and g are the same needs no store
pub skip_down : (M n : ℕ) (f g : ℕ → List ℕ) (w : List ℕ) (k lo hi : ℕ) → k < width M → lo ≡ suc k → k < hi → ((s : ℕ) → s < n → get_or (f s) k 0 ≡ get_or (g s) k 0)
    → Between M n f g lo hi w → Between M n f g k hi w
skip_down M n f g w k lo hi kw e kh alike m =
    let x : Stored M n f k (suc k) w w = record {
      size = refl;
      front = refl;
      others = λ s d l out. refl;
      column = λ s d l a b. let z : d ≡ k = omega arith in rw z (m.below s k l kw (omega arith) ∙ sym (alike s l));
    } in
    between-down x (omega arith) kh e m

only : {k : ℕ} (at : ℕ → ℕ) (v : ℕ) → at k ≡ v → (j : ℕ) → j < length (v ∷ []) → at (k + j) ≡ get_or (v ∷ []) j 0
only {k} at v e zero l = ap at (add-zero k) ∙ e
only {k} at v e (suc j) l = absurd (omega arith)

module _ (M n : ℕ) (f : ℕ → List ℕ) (w : List ℕ) (size : length w ≡ 8 + n * (width M)) (k : ℕ) (kw : k < width M) where
  pub one-stored : (x v : ℕ) → x < n → ((s : ℕ) → s < n → s ≢ x → cell_at M w s k ≡ get_or (f s) k 0) → get_or (f x) k 0 ≡ v → Stored M n f k (suc k) w (put_at M w x k v)
  one-stored x v xn kept at_x =
      row-stored M n f k (suc k) kw w size x (v ∷ []) (omega arith) xn (λ s d l p a b. let z : d ≡ k = omega arith in rw z (kept s l p))
      (only (λ c. get_or (f x) c 0) v at_x)

  pub two-stored : (x v y u : ℕ) → x < n → y < n → ((s : ℕ) → s < n → s ≢ x → s ≢ y → cell_at M w s k ≡ get_or (f s) k 0) → get_or (f x) k 0 ≡ v → get_or (f y) k 0 ≡ u
      → Stored M n f k (suc k) w (put_at M (put_at M w x k v) y k u)
  two-stored x v y u xn yn kept at_x at_y =
      rows_stored M n f k (suc k) kw w size x (v ∷ []) y (u ∷ []) (omega arith) (omega arith) xn yn
      (λ s d l p q a b. let z : d ≡ k = omega arith in rw z (kept s l p q)) (only (λ c. get_or (f x) c 0) v at_x) (only (λ c. get_or (f y) c 0) u at_y)

-- the same between f and g, which differ in that column at x alone
module _ (M n : ℕ) (f g : ℕ → List ℕ) (w : List ℕ) (k x v : ℕ) (kw : k < width M) (xn : x < n)
    (alike : (s : ℕ) → s < n → s ≢ x → get_or (f s) k 0 ≡ get_or (g s) k 0) (at_x : get_or (f x) k 0 ≡ v) where
  pub one_down : (lo hi : ℕ) → k < hi → lo ≡ suc k → Between M n f g lo hi w → Between M n f g k hi (put_at M w x k v)
  one_down lo hi kh e m =
      between-down (one-stored M n f w m.size k kw x v xn (λ s l p. m.below s k l kw (omega arith) ∙ sym (alike s l p)) at_x) (omega arith) kh e m

-- ---- from a state, to a state ----
pub cell-is : (w : List ℕ) → Passes w → (s c : ℕ) → s < slots_of (decode w) → c < width (decode w).levels → cell_at (decode w).levels w s c ≡ get_or (record_of (decode w) s) c 0
unfolding cell_at
cell-is w p s c l k = cell_record (decode w).levels w s c k ∙ ap (λ (R : List ℕ). get_or R c 0) (here w p (decode w).levels s ∙ rec_encode (decode w) s l)

pub between_start : (w : List ℕ) → Passes w → (f : ℕ → List ℕ) (k : ℕ) → Between (decode w).levels (slots_of (decode w)) f (record_of (decode w)) k k w
between_start w p f k = record {
  size = ap length p.words ∙ length-encode (decode w);
  new = λ s c l j a b. absurd (omega arith);
  below = λ s c l j a. cell-is w p s c l j;
  above = λ s c l j a. cell-is w p s c l j;
}

pub between-end : (T : State) (g : ℕ → List ℕ) (w : List ℕ) → Between T.levels (slots_of T) (record_of T) g 0 (width T.levels) w → take 8 w ≡ header T → w ≡ encode T
unfolding cell_at
between-end T g w m e =
    let W = width T.levels in
    sym (take-append-drop 8 w)
    ∙ ap₂ (λ (x y : List ℕ). x ++ y) e
    (recs_build W (record_of T) 0 (slots_of T) (drop 8 w) (omega (arith, length-drop 8 w, m.size))
    (λ j k. rw (drop-drop (j * W) 8 w, zero-add j) (ext_get_or 0 (record_at T.levels w j) (record_of T j)
    (length-take-le W (drop (8 + j * W) w) (omega (arith, length-drop (8 + j * W) w, m.size, mul-le-mul_right W k)) ∙ sym (length_record T j))
    (λ c l.
    let lw : c < W = omega (arith, l, length-take-le W (drop (8 + j * W) w) (omega (arith, length-drop (8 + j * W) w, m.size, mul-le-mul_right W k))) in
    sym (cell_record T.levels w j c lw) ∙ m.new j c k lw (omega arith) lw))))
