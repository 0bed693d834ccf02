-- Any words by slot and column: records from their columns, and the chains and lists that the words hold, step by step.
-- Rests on specs/Cells and specs/Passes.
use Prim.Native.Nat.{ℕ, zero, suc, ◌+◌, ◌*◌, ◌/◌, ◌%◌, ◌≤◌, ◌<◌}
use mathlib.Core.Path.{◌≡◌, refl, sym, ap, ◌∙◌, subst}
use mathlib.Core.List.{List, [], ◌∷◌}
use lib.ListN.{length, take, drop, get_or, length-drop, length-append}
use lib.Seq.{get_or-take, get_or-drop, ext_get_or, length-take-le, drop-cons}
use native.Mathlib.Nat.{mul-le-mul_right, add-zero, div-add-mod'}
use native.Mathlib.Omega.{arith}
use Rattle.model.specs.Arena.{width, to_column, State, first_slot, first_free, record_of, records, encode}
use Rattle.model.specs.Cells.{record_at, cell_at, link_at}
use Rattle.model.specs.Links.{link_words}
use Rattle.model.specs.Nodes.{node, N}
use Rattle.model.specs.Passes.{chain, free_chain, lists_from, decode, nodes}
use Rattle.model.proofs.Records.{length_record}

pub cell_record : (M : ℕ) (w : List ℕ) (s c : ℕ) → c < width M → cell_at M w s c ≡ get_or (record_at M w s) c 0
unfolding cell_at
cell_record M w s c l = sym (get_or-take (width M) (drop (8 + s * (width M)) w) c 0 l ∙ get_or-drop (8 + s * (width M)) w c 0)

-- ---- a record from its columns ----
pub every_column : (P : ℕ → Type 0) (M : ℕ) → P 0 → P 1 → P 2 → P 3 → ((l j : ℕ) → l < M → j < link_words → P (to_column l + j)) → (c : ℕ) → c < width M → P c
every_column P M p q r t h zero l = p
every_column P M p q r t h (suc zero) l = q
every_column P M p q r t h (suc (suc zero)) l = r
every_column P M p q r t h (suc (suc (suc zero))) l = t
every_column P M p q r t h (suc (suc (suc (suc k)))) l =
    let e = div-add-mod' k link_words in
    subst P (omega (arith, e)) (h (k / link_words) (k % link_words) (omega (arith, e)) (omega arith))

-- the words of a link, field by field
pub link_field : (M : ℕ) (w : List ℕ) (s l j : ℕ) → j < link_words → get_or (link_at M w s l) j 0 ≡ cell_at M w s (to_column l + j)
link_field M w s l zero k = ap (cell_at M w s) (sym (add-zero (to_column l)))
link_field M w s l (suc zero) k = ap (cell_at M w s) (omega arith)
link_field M w s l (suc (suc j)) k = absurd (omega arith)

pub link_is : (M : ℕ) (w : List ℕ) (s l : ℕ) (k : List ℕ) → length k ≡ link_words → ((j : ℕ) → j < link_words → cell_at M w s (to_column l + j) ≡ get_or k j 0) → link_at M w s l ≡ k
link_is M w s l k len h = ext_get_or 0 (link_at M w s l) k (sym len) (λ j q. link_field M w s l j q ∙ h j q)

-- a record that lies in the words is R, where each of its columns is
pub record_is : (M n : ℕ) (w : List ℕ) (s : ℕ) (R : List ℕ) → length w ≡ 8 + n * (width M) → s < n → length R ≡ width M
    → ((c : ℕ) → c < width M → cell_at M w s c ≡ get_or R c 0) → record_at M w s ≡ R
record_is M n w s R size l len h =
    let W = width M in
    let full = length-take-le W (drop (8 + s * W) w) (omega (arith, length-drop (8 + s * W) w, size, mul-le-mul_right W l)) in
    ext_get_or 0 (record_at M w s) R (full ∙ sym len) (λ c k. let j : c < W = omega (arith, k, full) in sym (cell_record M w s c j) ∙ h c j)

-- ---- the header ----
abbrev firsts : List ℕ → ℕ → ℕ → List ℕ
firsts w i zero = []
firsts w i (suc n) = get_or w i 0 ∷ firsts w (suc i) n

first_words : (w : List ℕ) (i n : ℕ) → i + n ≤ length w → take n (drop i w) ≡ firsts w i n
first_words w i zero l = refl
first_words w i (suc n) l = rw (drop-cons w i 0 (omega arith)) (ap (λ (t : List ℕ). get_or w i 0 ∷ t) (first_words w (suc i) n (omega arith)))

pub front_words_lem : (w : List ℕ) → 8 ≤ length w
    → take 8 w ≡ get_or w 0 0 ∷ get_or w 1 0 ∷ get_or w 2 0 ∷ get_or w 3 0 ∷ get_or w 4 0 ∷ get_or w 5 0 ∷ get_or w 6 0 ∷ get_or w 7 0 ∷ []
front_words_lem w l = first_words w 0 8 l

-- ---- chains, step by step ----
pub chain_step : (M : ℕ) (w : List ℕ) (n s : ℕ) → chain M w (suc n) s ≡ node s (cell_at M w s 0) (cell_at M w s 1) ∷ chain M w n (cell_at M w s 2)
chain_step M w n s = rw (cell_record M w s 0 (omega arith), cell_record M w s 1 (omega arith), cell_record M w s 2 (omega arith)) refl

pub free_step : (M : ℕ) (w : List ℕ) (n s : ℕ) → free_chain M w (suc n) s ≡ s ∷ free_chain M w n (cell_at M w s 2)
free_step M w n s = rw (cell_record M w s 2 (omega arith)) refl

pub length-chain : (M : ℕ) (w : List ℕ) (n s : ℕ) → length (chain M w n s) ≡ n
length-chain M w zero s = refl
length-chain M w (suc n) s = ap suc (length-chain M w n (get_or (record_at M w s) 2 0))

pub length_free : (M : ℕ) (w : List ℕ) (n s : ℕ) → length (free_chain M w n s) ≡ n
length_free M w zero s = refl
length_free M w (suc n) s = ap suc (length_free M w n (get_or (record_at M w s) 2 0))

pub first-chain : (M : ℕ) (w : List ℕ) (n s : ℕ) → (n ≡ 0 → s ≡ N) → first_slot (chain M w n s) ≡ s
first-chain M w zero s h = sym (h refl)
first-chain M w (suc n) s h = refl

pub first_free_lem : (M : ℕ) (w : List ℕ) (n s : ℕ) → (n ≡ 0 → s ≡ N) → first_free (free_chain M w n s) ≡ s
first_free_lem M w zero s h = sym (h refl)
first_free_lem M w (suc n) s h = refl

-- ---- the lists ----
pub length_lists : (M : ℕ) (w : List ℕ) (a n : ℕ) → length (lists_from M w a n) ≡ n
length_lists M w a zero = refl
length_lists M w a (suc n) = ap suc (length_lists M w (suc a) n)

lists_at : (M : ℕ) (w : List ℕ) (a n j : ℕ) → j < n → get_or (lists_from M w a n) j [] ≡ chain M w (cell_at M w (a + j) 0) (cell_at M w (a + j) 2)
lists_at M w a zero j l = absurd (omega arith)
lists_at M w a (suc n) zero l = rw (add-zero a, cell_record M w a 0 (omega arith), cell_record M w a 2 (omega arith)) refl
lists_at M w a (suc n) (suc j) l = let e : a + suc j ≡ suc a + j = omega arith in rw e (lists_at M w (suc a) n j (omega arith))

pub nodes_are : (w : List ℕ) (a : ℕ) → a < get_or w 2 0 → nodes w a ≡ chain (get_or w 3 0) w (cell_at (get_or w 3 0) w a 0) (cell_at (get_or w 3 0) w a 2)
nodes_are w a l = lists_at (get_or w 3 0) w 0 (get_or w 2 0) a l ∙ (let e : 0 + a ≡ a = omega arith in rw e refl)

pub lists_are : (w : List ℕ) → length (decode w).lists ≡ get_or w 2 0
lists_are w = length_lists (get_or w 3 0) w 0 (get_or w 2 0)

-- ---- the length of a model's words ----
length-records : (W : ℕ) (f : ℕ → List ℕ) → ((s : ℕ) → length (f s) ≡ W) → (s n : ℕ) → length (records f s n) ≡ n * W
length-records W f l s zero = omega arith
length-records W f l s (suc n) = length-append (f s) (records f (suc s) n) ∙ omega (arith, l s, length-records W f l (suc s) n)

pub length-encode : (S : State) → length (encode S) ≡ 8 + (length S.lists + S.room) * (width S.levels)
length-encode S = omega (arith, length-records (width S.levels) (record_of S) (length_record S) 0 (length S.lists + S.room))
