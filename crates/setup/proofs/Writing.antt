-- What set-up stores: a record from its rows, the records one by one, and the whole from its records and its header.
-- Rests on specs/NewRecords and arena's laws of cells.
use Prim.Native.Nat.{ℕ, suc, ◌+◌, ◌-◌, ◌*◌, ◌≤◌, ◌<◌}
use mathlib.Core.Path.{◌≡◌, refl, sym, ap, ◌∙◌, subst}
use mathlib.Core.Bool.{Bool, false}
use mathlib.Core.List.{List, []}
use lib.ListN.{length, drop, get_or, length-replicate, get_or-append}
use lib.Seq.{get_or-drop}
use native.Mathlib.Nat.{mul-le-mul_right}
use native.Mathlib.Omega.{arith}
use Rattle.model.specs.Nodes.{Node}
use Rattle.model.specs.Links.{link_words, absent_link}
use Rattle.model.specs.Arena.{width, to_column, absent_links, record_of, header, encode, set_up}
use Rattle.model.specs.Cells.{cell_at}
use Rattle.model.specs.Calls.{Room, SetUpPromise}
use Rattle.model.proofs.Chained.{absent-at}
use Rattle.model.proofs.Tests.{hit, miss, test, same, other, same?}
use Rattle.arena.specs.Decides.{Decides}
use Rattle.arena.specs.RecordIn.{RecordIn}
use Rattle.arena.specs.Linked.{LinkIn, put_row, put_link}
use Rattle.arena.proofs.Cells.{row_size, row_same, row_other, between-end}
use Rattle.arena.proofs.Deciding.{no}
use Rattle.setup.specs.declared.Front.{Front}
use Rattle.setup.specs.NewRecords.{front_words, bare_record, Written, FirstNew, HeaderSet}

-- ---- a record, row by row ----
write_none : {M s lo : ℕ} {R w : List ℕ} → Written M w s R lo lo w
write_none = record { size = refl; here = λ c a b. absurd (omega arith); rest = λ z c k out. refl }

write_row : {M s lo hi : ℕ} {R w₀ w : List ℕ} (ks : List ℕ) → RecordIn w₀ M s → lo ≤ hi → hi + length ks ≤ width M
    → ((j : ℕ) → j < length ks → get_or R (hi + j) 0 ≡ get_or ks j 0) → Written M w₀ s R lo hi w → Written M w₀ s R lo (hi + length ks) (put_row M w s hi ks)
write_row {M} {s} {lo} {hi} {R} {w₀} {w} ks i lh l is h = record {
  size = row_size M s w hi ks ∙ h.size;
  here = λ c a b. elim (test (suc c) hi) [
    | hit t p ↦ row_other M s w hi ks s c l (omega arith) (λ e x y. omega arith) ∙ h.here c a p
    | miss t p ↦
        let e : c ≡ hi + (c - hi) = omega arith in
        let j : c - hi < length ks = omega arith in
        rw e (row_same M s w hi ks (c - hi) l (omega (arith, i.inside, h.size)) j ∙ sym (is (c - hi) j))
  ];
  rest = λ z c k out. row_other M s w hi ks z c l k (λ e x y. out (sym e) (omega arith) y) ∙ h.rest z c k (λ e x y. out e x (omega arith));
}

-- the front, and then the links level by level
bare-front : (M : ℕ) (f : Front) (j : ℕ) → j < length (front_words f) → get_or (bare_record M f) (0 + j) 0 ≡ get_or (front_words f) j 0
bare-front M f j l = let e : 0 + j ≡ j = omega arith in rw e (get_or-append (front_words f) (absent_links M) 0 j l)

pub front-written : {M s : ℕ} (f : Front) {w u : List ℕ} → RecordIn w M s → u ≡ put_row M w s 0 (front_words f) → Written M w s (bare_record M f) 0 (to_column 0) u
front-written {M} f i e = rw e (write_row (front_words f) i (omega arith) (omega arith) (bare-front M f) write_none)

bare_link : (M : ℕ) (f : Front) (l j : ℕ) → l < M → j < link_words → get_or (bare_record M f) (to_column l + j) 0 ≡ get_or absent_link j 0
bare_link M f l j k q =
    let e : to_column l + j ≡ suc (suc (suc (suc (link_words * l + j)))) = omega arith in
    ap (λ (c : ℕ). get_or (bare_record M f) c 0) e ∙ absent-at M l j k q

pub still_lies : {M s lo hi : ℕ} {R w u : List ℕ} → RecordIn w M s → Written M w s R lo hi u → RecordIn u M s
still_lies i h = record { small = i.small; inside = omega (arith, i.inside, h.size) }

pub link_lies : {M s l lo hi : ℕ} {R w u : List ℕ} → RecordIn w M s → Written M w s R lo hi u → l < M → LinkIn u M s l
link_lies i h k = record { small = i.small; level = k; inside = omega (arith, i.inside, h.size) }

pub no_links_written : {M s : ℕ} {R w : List ℕ} → Written M w s R (to_column 0) (to_column 0) w
no_links_written = write_none

pub link_written : {M s l : ℕ} {f : Front} {w₀ w u : List ℕ} → RecordIn w₀ M s → l < M → Written M w₀ s (bare_record M f) (to_column 0) (to_column l) w
    → u ≡ put_link M w s l absent_link → Written M w₀ s (bare_record M f) (to_column 0) (to_column (l + 1)) u
unfolding put_link
link_written {M} {s} {l} {f} i k h e =
    let next : to_column (l + 1) ≡ to_column l + link_words = omega arith in
    rw (e, next) (write_row absent_link i (omega arith) (omega arith) (λ j q. bare_link M f l j k q) h)

pub all-written : {M s l : ℕ} {R w₀ w u : List ℕ} → l ≤ M → M ≤ l → Written M w₀ s R 0 (to_column 0) w → Written M w s R (to_column 0) (to_column l) u
    → Written M w₀ s R 0 (width M) u
all-written {M} {s} {l} l≤ ≤l f h = record {
  size = h.size ∙ f.size;
  here = λ c a b. elim (test (suc c) (to_column 0)) [
    | hit t p ↦ h.rest s c b (λ e x y. omega arith) ∙ f.here c a p
    | miss t p ↦ h.here c (omega arith) (omega arith)
  ];
  rest = λ z c k out. h.rest z c k (λ e x y. out e (omega arith) k) ∙ f.rest z c k (λ e x y. out e x k);
}

-- ---- the records, one by one ----
pub new_none : {L M n : ℕ} {w : List ℕ} → FirstNew L M n w 0 w
new_none = record { size = refl; records = λ s c l k. absurd (omega arith) }

pub new_inside : {L M n s k : ℕ} {w₀ w : List ℕ} → M ≤ 16 → k ≡ M → length w₀ ≡ 8 + n * (width M) → s < n → FirstNew L M n w₀ s w → RecordIn w k s
new_inside {L} {M} {n} {s} {k} {w₀} {w} m q e l h = rw q (record { small = m; inside = omega (arith, h.size, mul-le-mul_right (width M) l) })

pub new_more : {L M n s k : ℕ} {f : Front} {w₀ w u : List ℕ} → k ≡ M → FirstNew L M n w₀ s w → bare_record M f ≡ record_of (set_up L M (n - L)) s
    → Written k w s (bare_record k f) 0 (width k) u → FirstNew L M n w₀ (s + 1) u
new_more {L} {M} {n} {s} {k} {f} {w₀} {w} {u} q h e v =
    let r = subst (λ (m : ℕ). Written m w s (bare_record m f) 0 (width m) u) q v in
    record {
      size = r.size ∙ h.size;
      records = λ z c l k. elim (same? z s) [
        | same _ g ↦ rw g (r.here c (omega arith) k ∙ ap (λ (x : List ℕ). get_or x c 0) e)
        | other _ g ↦ r.rest z c k (λ x _ _. g x) ∙ h.records z c (omega arith) k
      ];
    }

pub new_all : {L M n s : ℕ} {w₀ w : List ℕ} → n ≤ s → s ≤ n → FirstNew L M n w₀ s w → FirstNew L M n w₀ n w
new_all {L} {M} {n} {s} {w₀} {w} l k h = let e : s ≡ n = omega arith in rw e at h

-- ---- the whole ----
behind : (M : ℕ) (u w : List ℕ) → drop 8 u ≡ drop 8 w → (s c : ℕ) → cell_at M u s c ≡ cell_at M w s c
unfolding cell_at
behind M u w e s c =
    let k = s * (width M) + c in
    let q : 8 + s * (width M) + c ≡ 8 + k = omega arith in
    rw q (sym (get_or-drop 8 u k 0) ∙ ap (λ (x : List ℕ). get_or x k 0) e ∙ get_or-drop 8 w k 0)

pub new_arena : {L M C : ℕ} {w₀ w u : List ℕ} → Room L M C (length w₀) → FirstNew L M (L + C) w₀ (L + C) w → HeaderSet w (header (set_up L M C)) u
    → u ≡ encode (set_up L M C)
new_arena {L} {M} {C} {w₀} {w} {u} r f h =
    let q : L + C - L ≡ C = omega arith in
    let n : length (set_up L M C).lists ≡ L = length-replicate {0} {A = List Node} L [] in
    between-end (set_up L M C) (record_of (set_up L M C)) u
    (record {
      size = h.size ∙ f.size ∙ r.size ∙ (rw n refl);
      new = λ s c l k lo hi. behind M u w h.rest s c ∙ f.records s c (omega (arith, n)) k ∙ (rw q refl);
      below = λ s c l k lo. absurd (omega arith);
      above = λ s c l k hi. absurd (omega arith);
    })
    h.front

-- ---- the promise ----
pub set_up_accepted : {L M C : ℕ} {w u : List ℕ} → Room L M C (length w) → u ≡ encode (set_up L M C) → SetUpPromise L M C w u 0
set_up_accepted r e = record { wrong = λ n. absurd (n r); right = λ _. (refl, e) }

pub set_up_refused : {L M C : ℕ} {b : Bool} {w : List ℕ} → Decides b (Room L M C (length w)) → b ≡ false → SetUpPromise L M C w w 2
set_up_refused s e = record { wrong = λ _. (refl, refl); right = λ r. absurd (no s e r) }
