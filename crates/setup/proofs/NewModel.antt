-- The model that set-up makes: its records, all without links, and its header. Rests on specs/NewRecords and model's Arena.
use Prim.Native.Nat.{ℕ, zero, suc, ◌+◌, ◌-◌, ◌≤◌, ◌<◌}
use mathlib.Core.Path.{◌≡◌, refl, sym, ap, ◌∙◌}
use mathlib.Core.List.{List, [], ◌∷◌, ◌++◌}
use lib.ListN.{length, drop, get_or, replicate, length-replicate}
use lib.Seq.{sets, length-sets, sets-eq, take_at, drop_at}
use native.Mathlib.Omega.{arith}
use borrow.Author.Tests.{lt-ltb, le-ltb}
use Rattle.model.specs.Nodes.{Node, N}
use Rattle.model.specs.Links.{absent_link}
use Rattle.model.specs.Arena.{header_words, node_links, absent_links, first_free, free_words, in_lists, in_free, record_of, up_from, set_up, mark, version, header}
use Rattle.model.proofs.Tests.{hit, miss, test, same, other, same?}
use Rattle.setup.specs.declared.Front.{Front}
use Rattle.setup.specs.NewRecords.{bare_record, HeaderSet}

-- ---- the records ----
abbrev front : ℕ → ℕ → ℕ → Front
front height next last = record { count = 0; height = height; next = next; last = last }

no_links : (l n ht : ℕ) → node_links l n ht [] ≡ absent_links n
no_links l zero ht = refl
no_links l (suc n) ht = elim (test (suc l) ht) [
  | hit e p ↦ rw e (ap (λ (t : List ℕ). absent_link ++ t) (no_links (suc l) n ht))
  | miss e p ↦ rw e (ap (λ (t : List ℕ). absent_link ++ t) (no_links (suc l) n ht))
]

no_list : (L s : ℕ) → ◌≡◌ {A = List Node} (get_or (replicate L []) s []) []
no_list zero s = refl
no_list (suc L) zero = refl
no_list (suc L) (suc s) = no_list L s

no_lists : (M s L : ℕ) (o : List ℕ) → in_lists M s (replicate L []) o ≡ o
no_lists M s zero o = refl
no_lists M s (suc L) o = no_lists M s L o

chained : (M s L C : ℕ) → L ≤ s → s < L + C → in_free M s (up_from L C) ≡ free_words M (up_from (suc s) (L + C - suc s))
chained M s L zero l k = absurd (omega arith)
chained M s L (suc C) l k = elim (same? L s) [
  | same e p ↦ let q : L + suc C - suc s ≡ C = omega arith in rw (e, q, p) refl
  | other e p ↦ let q : L + suc C - suc s ≡ suc L + C - suc s = omega arith in rw (e, q) (chained M s (suc L) C (omega arith) (omega arith))
]

pub head_form : (s L M C : ℕ) → s < L → bare_record M (front M N N) ≡ record_of (set_up L M C) s
head_form s L M C l = rw (length-replicate {0} {A = List Node} L [], lt-ltb s L l, no_list L s, no_links 0 M M) refl

free_form : (s L M C : ℕ) → L ≤ s → s < L + C → record_of (set_up L M C) s ≡ free_words M (up_from (suc s) (L + C - suc s))
free_form s L M C l k =
    rw (length-replicate {0} {A = List Node} L [], le-ltb s L l) (no_lists M s L (in_free M s (up_from L C)) ∙ chained M s L C l k)

pub last_form : (s L M n : ℕ) → L ≤ s → s + 1 ≡ n → bare_record M (front N N 0) ≡ record_of (set_up L M (n - L)) s
last_form s L M n l e =
    let q : L + (n - L) - suc s ≡ 0 = omega arith in
    sym (free_form s L M (n - L) l (omega arith) ∙ rw q refl)

pub next_form : (s L M n : ℕ) → L ≤ s → s < n → (s + 1 ≡ n → ⊥) → bare_record M (front N (s + 1) 0) ≡ record_of (set_up L M (n - L)) s
next_form s L M n l k ne =
    let m : s + 1 < n = omega arith in
    let q : L + (n - L) - suc s ≡ suc (n - s - 2) = omega arith in
    let p : s + 1 ≡ suc s = omega arith in
    sym (free_form s L M (n - L) l (omega arith) ∙ rw (q, p) refl)

-- ---- the header: its words stored from the front on ----
pub header-set : (w H : List ℕ) → length H ≡ header_words → header_words ≤ length w → HeaderSet w H (sets w 0 H)
header-set w H e l =
    let n : 0 + length H ≡ header_words = omega arith in
    let is : sets w 0 H ≡ H ++ drop header_words w = sets-eq H w 0 (omega arith) ∙ (rw n refl) in
    record {
      size = length-sets w 0 H;
      front = rw is (take_at H (drop header_words w) header_words e);
      rest = rw is (drop_at H (drop header_words w) header_words e);
    }

-- a new arena's header: the free chain begins at L and has all C slots
up_first : (L C : ℕ) → 1 ≤ C → first_free (up_from L C) ≡ L
up_first L zero l = absurd (omega arith)
up_first L (suc C) l = refl

up_length : (L C : ℕ) → length (up_from L C) ≡ C
up_length L zero = refl
up_length L (suc C) = ap suc (up_length (suc L) C)

pub header_new : (L M C : ℕ) → 1 ≤ C → mark ∷ version ∷ L ∷ M ∷ C ∷ L ∷ C ∷ 0 ∷ [] ≡ header (set_up L M C)
header_new L M C l = rw (length-replicate {0} {A = List Node} L [], up_first L C l, up_length L C)
