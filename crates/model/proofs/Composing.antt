-- Operations made of others: one step of a merge, b before a, and one node levelled. Rests on specs/Calls and Splitting (a model with other lists).
use Prim.Native.Nat.{ℕ, suc, ◌<◌}
use mathlib.Core.Path.{◌≡◌, refl, sym, ap, ap₂, ◌∙◌}
use mathlib.Core.Logic.{◌≢◌}
use mathlib.Core.List.{List, [], ◌∷◌, ◌++◌}
use lib.ListN.{length, take, drop, get_or, set}
use lib.Seq.{get_or-set_same, get_or-set_other, set-set, set_comm, take_at, drop_at, length-take-le}
use native.Mathlib.Omega.{arith}
use Rattle.model.specs.Closed.{do_join}
use Rattle.model.specs.Arena.{State, list_of}
use Rattle.model.specs.Calls.{do_insert, do_remove, do_split}
use Rattle.model.specs.Lists.{insert, insert_at, remove_at}
use Rattle.model.specs.Nodes.{Node}
use Rattle.model.proofs.Splitting.{with_lists}

-- the first node of b goes into a: removed, its slot is first on the free chain, and the insertion takes that one
pub merge_step : (S : State) (a b : ℕ) (y : Node) (ys : List Node) → list_of S b ≡ y ∷ ys → a ≢ b
    → do_insert (do_remove S b 0) a y.key y.height ≡ with_lists S (set (set S.lists b ys) a (insert y (list_of S a)))
merge_step S a b y ys e ne =
    let R : List (List Node) = set S.lists b (drop 1 (list_of S b)) in
    let g : get_or R a [] ≡ list_of S a = get_or-set_other S.lists b a (drop 1 (list_of S b)) [] ne in
    rw (e, get_or-set_other S.lists b a ys [] ne) refl

-- b before a: a is hung behind b, and b split at 0 into a
pub before_step : (S : State) (a b : ℕ) → a < length S.lists → b < length S.lists → a ≢ b
    → do_split (do_join S b a) b a 0 ≡ with_lists S (set (set S.lists b []) a (list_of S b ++ list_of S a))
before_step S a b la lb ne =
    let X = list_of S b ++ list_of S a in
    let g : get_or (set (set S.lists b X) a []) b [] ≡ X = get_or-set_other (set S.lists b X) a b [] [] (λ q. ne (sym q)) ∙ get_or-set_same S.lists b X [] lb in
    ap (λ (t : List (List Node)). with_lists S t)
    (ap (λ (t : List Node). set (set (set (set S.lists b X) a []) b []) a t) g
    ∙ ap (λ (t : List (List Node)). set t a X) (set_comm (set S.lists b X) a b [] [] ne)
    ∙ set-set (set (set S.lists b X) b []) a [] X ∙ ap (λ (t : List (List Node)). set t a X) (set-set S.lists b X []))

-- levelling, one node: out and in again at the same index
pub level_step : (k : ℕ) (n : Node) (xs : List Node) → k < length xs → insert_at k n (remove_at k xs) ≡ take k xs ++ n ∷ drop (suc k) xs
level_step k n xs l =
    let e = length-take-le k xs (omega arith) in
    ap₂ (λ (x y : List Node). x ++ n ∷ y) (take_at (take k xs) (drop (suc k) xs) k e) (drop_at (take k xs) (drop (suc k) xs) k e)
