-- The loop of `level`: the nodes before index i are levelled, and what is left makes the levelled list. Rests on OneNode.
use Prim.Native.Nat.{ℕ, suc, ◌+◌, ◌≤◌, ◌<◌}
use mathlib.Core.Path.{◌≡◌, refl, sym, ap, ap₂, ◌∙◌, subst}
use mathlib.Core.List.{List, [], ◌∷◌, ◌++◌, append_assoc}
use lib.ListN.{length, take, drop, set, replicate, length-append, length-drop, length-replicate, drop_of_length-le, take-append-drop}
use lib.Seq.{set-set, set-get_or, drop-cons, take_at, drop_at, length-take-le}
use native.Mathlib.Omega.{arith}
use Rattle.model.specs.Nodes.{Node, node, N, at}
use Rattle.model.specs.Lists.{twos, level_from}
use Rattle.model.specs.Arena.{State, list_of, put_list, encode}
use Rattle.model.specs.Calls.{do_level}
use Rattle.model.specs.Cells.{Cell, cell_at}
use Rattle.model.specs.Passes.{decode, nodes}
use Rattle.model.proofs.Counting.{list_few}
use Rattle.model.proofs.Levels.{twos_le}
use Rattle.arena.specs.Owners.{Listed, Leads, NodeThere}
use Rattle.arena.specs.declared.Slot.{Slot}
use Rattle.arena.specs.declared.Rank.{Rank}
use Rattle.arena.specs.declared.Path.{Path}
use Rattle.arena.proofs.Places.{fits, length_word}
use Rattle.walk.proofs.Noting.{none_before}
use Rattle.levelling.specs.NodeByNode.{levelled_at, levelled_from, Full, CanRelevel, Relevelled}
use Rattle.levelling.proofs.OneNode.{listed_in, is_T, nodes-v}

pub record Levelling (w₀ : List ℕ) (m a n i : ℕ) (w : List ℕ) (path : Path) : Type 0 where
  pub listed : Listed w m a
  pub leads : Leads w m a i path
  pub full : Full path
  pub rest : levelled_from (decode w) a i ≡ do_level (decode w₀) a
  pub count : length (nodes w a) ≡ n
  pub size : length w ≡ length w₀

-- the node at index i levelled, and then those from the next on
one_fewer : (S : State) (a i : ℕ) → i < length (list_of S a) → (T : State) → T ≡ levelled_at S a i (twos S.levels (suc i))
    → list_of T a ≡ take i (list_of S a) ++ node (at (list_of S a) i).slot (at (list_of S a) i).key (twos S.levels (suc i)) ∷ drop (suc i) (list_of S a)
    → levelled_from T a (suc i) ≡ levelled_from S a i
one_fewer S a i l T eT e =
    let xs = list_of S a in
    let n = node (at xs i).slot (at xs i).key (twos S.levels (suc i)) in
    let A = take i xs in
    let B = drop (suc i) xs in
    let done = A ++ level_from S.levels (suc i) (drop i xs) in
    let eA : length (A ++ n ∷ []) ≡ suc i = length-append A (n ∷ []) ∙ omega (arith, length-take-le i xs (omega arith)) in
    let f : list_of T a ≡ (A ++ n ∷ []) ++ B = e ∙ sym (append_assoc A (n ∷ []) B) in
    let M : T.levels ≡ S.levels = ap (λ (s : State). s.levels) eT in
    let first : take (suc i) (list_of T a) ≡ A ++ n ∷ [] = ap (take (suc i)) f ∙ take_at (A ++ n ∷ []) B (suc i) eA in
    let rest : drop (suc i) (list_of T a) ≡ B = ap (drop (suc i)) f ∙ drop_at (A ++ n ∷ []) B (suc i) eA in
    let parts : take (suc i) (list_of T a) ++ level_from T.levels (suc (suc i)) (drop (suc i) (list_of T a)) ≡ done
    = ap₂ (λ (t u : List Node). t ++ level_from T.levels (suc (suc i)) u) first rest
    ∙ append_assoc A (n ∷ []) (level_from T.levels (suc (suc i)) B) ∙ ap (λ (k : ℕ). A ++ n ∷ level_from k (suc (suc i)) B) M
    ∙ ap (λ (t : List Node). A ++ level_from S.levels (suc i) t) (sym (drop-cons xs i (node N 0 0) l)) in
    ap (λ (ys : List Node). put_list T a ys T.free) parts ∙ ap (λ (s : State). put_list s a done s.free) eT
    ∙ ap (λ (t : List (List Node)). record { levels = S.levels; room = S.room; lists = t; free = S.free }) (set-set S.lists a (A ++ n ∷ B) done)

none_left : (S : State) (a i : ℕ) → length (list_of S a) ≤ i → levelled_from S a i ≡ S
none_left S a i l =
    let xs = list_of S a in
    let d : drop i xs ≡ [] = drop_of_length-le xs {i = i} l in
    let t : take i xs ++ level_from S.levels (suc i) (drop i xs) ≡ xs
    = ap (λ (y : List Node). take i xs ++ level_from S.levels (suc i) y) d ∙ ap (λ (y : List Node). take i xs ++ y) (sym d) ∙ take-append-drop i xs in
    ap (λ (y : List (List Node)). record { levels = S.levels; room = S.room; lists = y; free = S.free }) (ap (set S.lists a) t ∙ set-get_or S.lists a [])

module _ {w : List ℕ} {m a : ℕ} (p : Listed w m a) where
  pub small : m ≤ 16
  small = omega (arith, p.levels, p.passes.sizes.levels_most)

  pub cell_count : Cell w m a 0
  cell_count = rw p.levels (record { small = p.passes.sizes.levels_most; column = omega arith; inside = fits w p.passes a 0 (omega (arith, p.list)) (omega arith) })

  pub count_is : {n : ℕ} → n ≡ cell_at m w a 0 → length (nodes w a) ≡ n
  count_is e = sym (e ∙ ap (λ (k : ℕ). cell_at k w a 0) p.levels ∙ sym (length_word w p.passes a p.list))

  pub few : length (nodes w a) ≤ 65535
  few = omega (arith, list_few (decode w) p.passes.sound a, p.passes.sizes.room_most)

module _ {w₀ : List ℕ} {m a n i : ℕ} {w : List ℕ} {path : Path} (g : Levelling w₀ m a n i w path) where
  pub all-levelled : n ≤ i → w ≡ encode (do_level (decode w₀) a)
  all-levelled l = g.listed.passes.words ∙ ap encode (sym (none_left (decode w) a i (omega (arith, g.count))) ∙ g.rest)

  next_there : i < n → NodeThere w m a i
  next_there l = record { listed = g.listed; index = omega (arith, g.count) }

  pub can_relevel : i < n → (k : ℕ) {h : ℕ} → h ≡ twos m k → CanRelevel w m a i h path
  can_relevel l k e = record { there = next_there l; leads = g.leads; full = g.full; height = omega (arith, e, twos_le m k) }

abbrev slot : ℕ → Slot
slot s = record { 0 = s }

abbrev head_rank : Rank
head_rank = record { 0 = 0 }

pub level_start : {w : List ℕ} {m a n : ℕ} {path : Path} → Listed w m a → n ≡ cell_at m w a 0 → path.slots ≡ replicate 16 (slot a) → path.ranks ≡ replicate 16 head_rank → path.end.0 ≡ a
    → Levelling w m a n 0 w path
level_start {w} {m} {a} {n} {path} p en es er ee = record {
  listed = p;
  leads = record { before = rw (es, er) (none_before p); end = ee };
  full = record { slots = ap length es ∙ length-replicate 16 (slot a); ranks = ap length er ∙ length-replicate 16 head_rank };
  rest = refl;
  count = count_is p en;
  size = refl;
}

pub level_turn : {w₀ : List ℕ} {m a n i : ℕ} {w : List ℕ} {path : Path} → Levelling w₀ m a n i w path → i < n → {k h : ℕ} → k ≡ i + 1 → h ≡ twos m k
    → {u : List ℕ} {q : Path} → Relevelled w m a i h u q → length u ≡ length w → Levelling w₀ m a n (i + 1) u q
level_turn {w₀} {m} {a} {n} {i} {w} {path} g l {k} {h} ek eh {u} {q} z eu =
    let S = decode w in
    let e : i + 1 ≡ suc i = omega arith in
    let lv = next_there g l in
    let th : h ≡ twos S.levels (suc i) = eh ∙ ap₂ twos g.listed.levels (ek ∙ e) in
    let words : u ≡ encode (levelled_at S a i (twos S.levels (suc i))) = z.words ∙ ap (λ (j : ℕ). encode (levelled_at S a i j)) th in
    let hm : twos S.levels (suc i) ≤ m = omega (arith, twos_le S.levels (suc i), g.listed.levels) in
    let ns = nodes-v lv hm words in
    subst (λ (j : ℕ). Levelling w₀ m a n j u q) (sym e) (record {
      listed = listed_in lv hm words;
      leads = z.leads;
      full = z.full;
      rest = one_fewer S a i lv.index (decode u) (is_T lv hm words) ns ∙ g.rest;
      count = ap length ns ∙ length-append (take i (nodes w a)) _
          ∙ omega (arith, length-take-le i (nodes w a) (omega (arith, lv.index)), length-drop (suc i) (nodes w a), lv.index, g.count);
      size = eu ∙ g.size;
    })
