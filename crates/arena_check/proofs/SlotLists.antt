-- The slots of lists of nodes, as chains of slots: times, ends and totals; and chains told apart by their ends. Rests on model's Apart.
use Prim.Native.Nat.{ℕ, zero, suc, ◌+◌, ◌≤◌, ◌<◌}
use mathlib.Core.Path.{◌≡◌, refl, ap, sym, subst}
use mathlib.Core.List.{List, [], ◌∷◌}
use lib.ListN.{length, get_or}
use native.Mathlib.Omega.{arith}
use borrow.Author.Tests.{eq-eqb}
use Rattle.model.specs.Arena.{count_column, next_column, last_slot}
use Rattle.model.specs.Cells.{record_at}
use Rattle.model.specs.Nodes.{Node, N}
use Rattle.model.specs.Passes.{times, times_all, times_free, chain, lists_from}
use Rattle.model.proofs.Apart.{ends_at, Stretch, Runs, Other, Apart, InRange, Withins, occ_all, total}
use Rattle.model.proofs.Columns.{cell_record, length-chain}
use Rattle.model.proofs.Counting.{total as total_nodes}
use Rattle.model.proofs.Records.{times_all_ge}
use Rattle.model.proofs.Tests.{same, other, same?}
use Rattle.link_check.specs.declared.Dims.{Dims}
use Rattle.arena_check.specs.Headed.{lengths}

abbrev pub slots : List Node → List ℕ
slots [] = []
slots (y ∷ ys) = y.slot ∷ slots ys

abbrev pub slots_all : List (List Node) → List (List ℕ)
slots_all [] = []
slots_all (xs ∷ xss) = slots xs ∷ slots_all xss

times-slots : (s : ℕ) (xs : List Node) → times_free s (slots xs) ≡ times s xs
times-slots s [] = refl
times-slots s (y ∷ ys) = elim (same? y.slot s) [ same e p ↦ rw e (ap suc (times-slots s ys)) | other e p ↦ rw e (times-slots s ys) ]

pub times-all : (s : ℕ) (xss : List (List Node)) → occ_all s (slots_all xss) ≡ times_all s xss
times-all s [] = refl
times-all s (xs ∷ xss) = omega (arith, times-slots s xs, times-all s xss)

pub ends-slots : (xs : List Node) → ends_at (slots xs) ≡ last_slot xs
ends-slots [] = refl
ends-slots (y ∷ []) = refl
ends-slots (y ∷ z ∷ ys) = ends-slots (z ∷ ys)

pub slots_get : (xss : List (List Node)) (a : ℕ) → get_or (slots_all xss) a [] ≡ slots (get_or xss a [])
slots_get [] a = refl
slots_get (xs ∷ xss) zero = refl
slots_get (xs ∷ xss) (suc a) = slots_get xss a

pub length-all : (xss : List (List Node)) → length (slots_all xss) ≡ length xss
length-all [] = refl
length-all (xs ∷ xss) = ap suc (length-all xss)

-- ---- totals ----
length-slots : (xs : List Node) → length (slots xs) ≡ length xs
length-slots [] = refl
length-slots (y ∷ ys) = ap suc (length-slots ys)

pub total-slots : (xss : List (List Node)) → total (slots_all xss) ≡ total_nodes xss
total-slots [] = refl
total-slots (xs ∷ xss) = omega (arith, length-slots xs, total-slots xss)

pub total-lengths : (w : List ℕ) (d : Dims) (a n : ℕ) → lengths w d a + total (slots_all (lists_from d.levels w a n)) ≡ lengths w d (a + n)
unfolding lengths
total-lengths w d a zero = let e : a + 0 ≡ a = omega arith in rw e (omega arith)
total-lengths w d a (suc n) = let e : a + suc n ≡ suc a + n = omega arith in rw e (one (total-lengths w d (suc a) n))
  where
    one : lengths w d (suc a) + total (slots_all (lists_from d.levels w (suc a) n)) ≡ lengths w d (suc a + n)
        → lengths w d a + total (slots_all (lists_from d.levels w a (suc n))) ≡ lengths w d (suc a + n)
    one i =
        let M = d.levels in
        let head = record_at M w a in
        let count = get_or head count_column 0 in
        let next = get_or head next_column 0 in
        omega (arith, length-slots (chain M w count next), length-chain M w count next, cell_record M w a count_column (omega arith))

-- ---- chains, one by one ----
pub runs-all : (nx : ℕ → ℕ) (xss : List (List Node)) → ((a : ℕ) → a < length xss → Stretch nx (slots (get_or xss a []))) → Runs nx (slots_all xss)
runs-all nx [] h = tt
runs-all nx (xs ∷ xss) h = (h 0 (omega arith), runs-all nx xss (λ a l. h (suc a) (omega arith)))

pub withins-all : (L C : ℕ) (xss : List (List Node)) → ((a : ℕ) → a < length xss → InRange L C (slots (get_or xss a []))) → Withins L C (slots_all xss)
withins-all L C [] h = tt
withins-all L C (xs ∷ xss) h = (h 0 (omega arith), withins-all L C xss (λ a l. h (suc a) (omega arith)))

pub other-all : (e : ℕ) (cs : List (List ℕ)) → ((j : ℕ) → j < length cs → e ≡ ends_at (get_or cs j []) → e ≡ N) → Other e cs
other-all e [] h = tt
other-all e (c ∷ cs) h = (h 0 (omega arith), other-all e cs (λ j l. h (suc j) (omega arith)))

pub apart-all : (cs : List (List ℕ))
    → ((i j : ℕ) → i < j → j < length cs → ends_at (get_or cs i []) ≡ ends_at (get_or cs j []) → ends_at (get_or cs i []) ≡ N) → Apart cs
apart-all [] h = tt
apart-all (c ∷ cs) h =
    (other-all (ends_at c) cs (λ j l. h 0 (suc j) (omega arith) (omega arith)), apart-all cs (λ i j p l. h (suc i) (suc j) (omega arith) (omega arith)))

-- ---- a last slot in two lists ----
last_in_lem : (y : Node) (ys : List Node) → 1 ≤ times (last_slot (y ∷ ys)) (y ∷ ys)
last_in_lem y [] = rw (eq-eqb y.slot y.slot refl) (omega arith)
last_in_lem y (z ∷ ys) = elim (same? y.slot (last_slot (z ∷ ys))) [ same e p ↦ rw e (omega arith) | other e p ↦ rw e (last_in_lem z ys) ]

two_lists : (s : ℕ) (xss : List (List Node)) (a b : ℕ) → b < a → times s (get_or xss a []) + times s (get_or xss b []) ≤ times_all s xss
two_lists s [] a b l = omega arith
two_lists s (xs ∷ xss) zero b l = absurd (omega arith)
two_lists s (xs ∷ xss) (suc a) zero l = omega (arith, times_all_ge s xss a)
two_lists s (xs ∷ xss) (suc a) (suc b) l = omega (arith, two_lists s xss a b (omega arith))

pub lasts_differ : (xss : List (List Node)) → ((s : ℕ) → times_all s xss ≤ 1) → (a b : ℕ) → b < a
    → last_slot (get_or xss a []) ≡ last_slot (get_or xss b []) → last_slot (get_or xss a []) ≡ N
lasts_differ xss h a b l e = go (get_or xss a []) (get_or xss b []) refl refl e
  where
    go : (xs ys : List Node) → get_or xss a [] ≡ xs → get_or xss b [] ≡ ys → last_slot xs ≡ last_slot ys → last_slot xs ≡ N
    go [] ys p q i = refl
    go (x ∷ xs) [] p q i = i
    go (x ∷ xs) (y ∷ ys) p q i =
        let s = last_slot (x ∷ xs) in
        let t = rw (p, q) at (two_lists s xss a b l) in
        absurd (omega (arith, h s, t, last_in_lem x xs, subst (λ (v : ℕ). 1 ≤ times v (y ∷ ys)) (sym i) (last_in_lem y ys)))
