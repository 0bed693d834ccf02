-- Links stored level by level, then the columns before them, from the words of one model to those of another. Rests on Cells and model's Hang.
use Prim.Native.Nat.{ℕ, zero, suc, ◌+◌, ◌-◌, ◌*◌, ◌≤◌, ◌<◌}
use mathlib.Core.Path.{◌≡◌, refl, sym, ap, ◌∙◌, subst}
use mathlib.Core.Logic.{◌≢◌}
use mathlib.Core.List.{List}
use lib.ListN.{length, take, get_or, set, length-set}
use lib.Seq.{get_or-set_other}
use native.Mathlib.Omega.{arith}
use Rattle.arena.specs.Linked.{LinkIn, put_link}
use Rattle.arena.specs.Between.{Between}
use Rattle.model.specs.Arena.{width, to_column, far_column, State, record_of, header, encode, slots_of}
use Rattle.model.specs.Cells.{Cell, cell_at, link_at, put_at}
use Rattle.model.specs.Links.{link_words}
use Rattle.model.specs.Nodes.{Node}
use Rattle.model.specs.Passes.{decode, Passes}
use Rattle.arena.proofs.Cells.{in_words, row_size, row-front, row-stored, rows_stored, Stored, between_up, between-down, two-stored, between_start, between-end}
use Rattle.model.proofs.Columns.{link_field, link_is}
use Rattle.model.proofs.Hang.{Hangs, Hung, Stage}
use Rattle.model.proofs.Links.{past}
use Rattle.model.proofs.Owners.{field, Column, link_column, link_from}
use Rattle.model.proofs.Tests.{same, other, same?}

-- a cell and a link of a slot that is there
pub there : (m n : ℕ) → m ≤ 16 → {lo hi : ℕ} {f g : ℕ → List ℕ} (w : List ℕ) → Between m n f g lo hi w → (s c : ℕ) → s < n → c < width m → Cell w m s c
there m n sm w g s c l k = record { small = sm; column = k; inside = in_words m n w g.size s c l k }

pub link_there : (m n : ℕ) → m ≤ 16 → {lo hi : ℕ} {f g : ℕ → List ℕ} (w : List ℕ) → Between m n f g lo hi w → (s l : ℕ) → s < n → l < m → LinkIn w m s l
link_there m n sm w g s l i k = record { small = sm; level = k; inside = in_words m n w g.size s (far_column l) i (omega arith) }

-- ---- one level ----
-- f and g agree on the link of level l of slot s; that of f is k
abbrev pub SameLink : (ℕ → List ℕ) → (ℕ → List ℕ) → ℕ → ℕ → Type 0
SameLink f g l s = (j : ℕ) → j < link_words → get_or (f s) (to_column l + j) 0 ≡ get_or (g s) (to_column l + j) 0

abbrev pub LinkOf : (ℕ → List ℕ) → ℕ → ℕ → List ℕ → Type 0
LinkOf f l s k = (j : ℕ) → j < link_words → get_or (f s) (to_column l + j) 0 ≡ get_or k j 0

-- the links of level l, of which those of f and g differ at x alone, or at x and y
module _ {M n : ℕ} {f g : ℕ → List ℕ} {w : List ℕ} {l lo : ℕ} (lm : l < M) (b : lo ≤ to_column l) (m : Between M n f g lo (to_column l) w) where
  kept : {P : ℕ → Type 0} → ((s : ℕ) → s < n → P s → SameLink f g l s) → (s d : ℕ) → s < n → P s → to_column l ≤ d → d < to_column (l + 1) → cell_at M w s d ≡ get_or (f s) d 0
  kept alike s d i p a e =
      let q : d ≡ to_column l + (d - to_column l) = omega arith in
      rw q (m.above s (to_column l + (d - to_column l)) i (omega arith) (omega arith) ∙ sym (alike s i p (d - to_column l) (omega arith)))

  pub link_up : (x : ℕ) (k : List ℕ) → length k ≡ link_words → x < n → ((s : ℕ) → s < n → s ≢ x → SameLink f g l s) → LinkOf f l x k
      → Between M n f g lo (to_column (l + 1)) (put_link M w x l k)
  unfolding put_link
  link_up x k len xn alike at_x =
      let stored = row-stored M n f (to_column l) (to_column (l + 1)) (omega arith) w m.size x k (omega arith) xn (kept alike) (λ j q. at_x j (omega arith)) in
      between_up stored b (omega arith) refl refl m

  pub links_up : (x : ℕ) (k : List ℕ) (y : ℕ) (i : List ℕ) → length k ≡ link_words → length i ≡ link_words → x < n → y < n
      → ((s : ℕ) → s < n → s ≢ x → s ≢ y → SameLink f g l s) → LinkOf f l x k → LinkOf f l y i → Between M n f g lo (to_column (l + 1)) (put_link M (put_link M w x l k) y l i)
  unfolding put_link
  links_up x k y i len len' xn yn alike at_x at_y =
      let stored = rows_stored M n f (to_column l) (to_column (l + 1)) (omega arith) w m.size x k y i (omega arith) (omega arith) xn yn
      (λ s d z p q. kept {P = λ s. (s ≢ x) × (s ≢ y)} (λ s z r. alike s z r.0 r.1) s d z (p, q)) (λ j q. at_x j (omega arith)) (λ j q. at_y j (omega arith)) in
      between_up stored b (omega arith) refl refl m

pub link_size : (M : ℕ) (w : List ℕ) (s l : ℕ) (k : List ℕ) → length (put_link M w s l k) ≡ length w
unfolding put_link
link_size M w s l k = row_size M s w (to_column l) k

pub link_front : (M : ℕ) (w : List ℕ) (s l : ℕ) (k : List ℕ) → take 8 (put_link M w s l k) ≡ take 8 w
unfolding put_link
link_front M w s l k = row-front M s w (to_column l) k

-- the links of the levels below l are as in T, all else as in S
pub record Relinked (S T : State) (fr : List ℕ) (m l : ℕ) (w : List ℕ) : Type 0 where
  pub front : take 8 w ≡ fr
  pub between : Between m (slots_of S) (record_of T) (record_of S) (to_column 0) (to_column l) w

pub relink_start : (w : List ℕ) → Passes w → (T : State) (m : ℕ) → m ≡ (decode w).levels → Relinked (decode w) T (take 8 w) m 0 w
relink_start w p T m e = record { front = refl; between = rw e (between_start w p (record_of T) (to_column 0)) }

pub un_past : (k d : ℕ) → past k d - k ≡ d
un_past k zero = omega arith
un_past k (suc d) = omega arith

-- behind A the list changes from X to Y: at level l the link of the last owner of A changes, and that of slot o
module _ {S T : State} {a o : ℕ} {A X Y : List Node} (H : Hung S T a o A X Y) (on : o < slots_of S) {m : ℕ} (em : m ≡ S.levels) (sm : m ≤ 16)
    {fr : List ℕ} {l : ℕ} {w : List ℕ} (g : Relinked S T fr m l w) (k : l < m) {s r : ℕ} (st : Stage H (suc l) s r) where
  its_column : (j : ℕ) → j < link_words → Column S.levels (to_column l + j) (field j (suc l))
  its_column j q = link_column S.levels l j (omega arith) q

  pub link_s : LinkIn w m s l
  link_s = link_there m (slots_of S) sm w g.between s l st.known k

  pub link_o : LinkIn w m o l
  link_o = link_there m (slots_of S) sm w g.between o l on k

  pub old_link : link_at m w s l ≡ link_from (length A - r) (suc l) X
  old_link =
      link_is m w s l (link_from (length A - r) (suc l) X) refl
      (λ j q. g.between.above s (to_column l + j) st.known (omega arith) (omega arith) ∙ st.old (to_column l + j) j (its_column j q))

  pub old_link_o : LinkOf (record_of S) l o (link_at m w o l)
  old_link_o j q = sym (link_field m w o l j q ∙ g.between.above o (to_column l + j) on (omega arith) (omega arith))

  elsewhere : (z : ℕ) → z < slots_of S → z ≢ s → z ≢ o → SameLink (record_of T) (record_of S) l z
  elsewhere z i p q j f = st.same (to_column l + j) j (its_column j f) z i p q

  module _ (i : List ℕ) (e : i ≡ link_from (length A - r) (suc l) Y) where
    new_link : LinkOf (record_of T) l s i
    new_link j q = rw e (st.new (to_column l + j) j (its_column j q))

    -- o has link i' in T; or it has the same link as in S
    pub relinked : (i' : List ℕ) → length i' ≡ link_words → LinkOf (record_of T) l o i' → (x : List ℕ) → x ≡ put_link m (put_link m w s l i) o l i' → Relinked S T fr m (l + 1) x
    relinked i' len at-o x ex = rw ex (record {
      front = link_front m (put_link m w s l i) o l i' ∙ link_front m w s l i ∙ g.front;
      between = links_up k (omega arith) g.between s i o i' (ap length e) len st.known on elsewhere new_link at-o;
    })

    pub relinked-one : SameLink (record_of T) (record_of S) l o → (x : List ℕ) → x ≡ put_link m w s l i → Relinked S T fr m (l + 1) x
    relinked-one at-o x ex = rw ex (record {
      front = link_front m w s l i ∙ g.front;
      between = link_up k (omega arith) g.between s i (ap length e) st.known
          (λ z b p. elim (same? z o) [ same _ q ↦ rw q at-o | other _ q ↦ elsewhere z b p q ]) new_link;
    })

-- ---- the whole ----
pub all_done : (S T : State) → S.levels ≡ T.levels → slots_of S ≡ slots_of T → (m : ℕ) → m ≡ S.levels → (w : List ℕ)
    → Between m (slots_of S) (record_of T) (record_of S) 0 (width m) w → take 8 w ≡ header T → w ≡ encode T
all_done S T levels slots m e w x f =
    between-end T (record_of S) w
    (subst (λ (k : ℕ). Between T.levels k (record_of T) (record_of S) 0 (width T.levels) w) slots
    (subst (λ (k : ℕ). Between k (slots_of S) (record_of T) (record_of S) 0 (width k) w) (e ∙ levels) x))
    f

pub relink_end : {S T : State} {a : ℕ} {Out : ℕ → Type 0} {A X Y : List Node} → Hangs S T a Out A X Y → (m : ℕ) → m ≡ S.levels → (w : List ℕ)
    → Between m (slots_of S) (record_of T) (record_of S) 0 (width m) w → take 8 w ≡ header T → w ≡ encode T
relink_end {S} {T} H = all_done S T H.levels (omega (arith, H.lists, H.room))

-- a store in the header changes no record
pub between-header : {m n lo hi : ℕ} {f g : ℕ → List ℕ} {w : List ℕ} (j v : ℕ) → j < 8 → Between m n f g lo hi w → Between m n f g lo hi (set w j v)
unfolding cell_at
between-header {m} {n} {lo} {hi} {f} {g} {w} j v l M = record {
  size = length-set w j v ∙ M.size;
  new = λ s c x y a b. cell-header s c ∙ M.new s c x y a b;
  below = λ s c x y a. cell-header s c ∙ M.below s c x y a;
  above = λ s c x y a. cell-header s c ∙ M.above s c x y a;
}
  where
    cell-header : (s c : ℕ) → cell_at m (set w j v) s c ≡ cell_at m w s c
    cell-header s c = get_or-set_other w j (8 + s * (width m) + c) v 0 (λ e. omega (arith, e))

-- the columns from lo on are as in T, those below as in S
pub record Half (S T : State) (fr : List ℕ) (m lo : ℕ) (w : List ℕ) : Type 0 where
  pub front : take 8 w ≡ fr
  pub between : Between m (slots_of S) (record_of T) (record_of S) lo (width m) w

pub stored_col : {S T : State} {fr : List ℕ} {m k : ℕ} {w u : List ℕ} → Stored m (slots_of S) (record_of T) k (suc k) w u → k < 4 → Half S T fr m (suc k) w → Half S T fr m k u
stored_col x l g = record { front = x.front ∙ g.front; between = between-down x (omega arith) (omega arith) refl g.between }

pub col : {S T : State} {fr : List ℕ} {m : ℕ} {w : List ℕ} (k : ℕ) → k < 4 → Half S T fr m (suc k) w → (x v y u : ℕ) → x < slots_of S → y < slots_of S
    → ((s : ℕ) → s < slots_of S → s ≢ x → s ≢ y → get_or (record_of T s) k 0 ≡ get_or (record_of S s) k 0) → get_or (record_of T x) k 0 ≡ v → get_or (record_of T y) k 0 ≡ u
    → {w' : List ℕ} → w' ≡ put_at m (put_at m w x k v) y k u → Half S T fr m k w'
col {S} {T} {fr} {m} {w} k l g x v y u xn yn alike ax ay q =
    let stored = two-stored m (slots_of S) (record_of T) w g.between.size k (omega arith) x v y u xn yn
    (λ s z p q. g.between.below s k z (omega arith) (omega arith) ∙ sym (alike s z p q)) ax ay in
    stored_col (rw q stored) l g
