-- How links change where lists are joined or a node is put in, and that an append undoes a split. Rests on specs/Links and specs/Calls.
use Prim.Native.Nat.{ℕ, zero, suc, ◌+◌, ◌≤◌, ◌<◌}
use mathlib.Core.Path.{◌≡◌, refl, sym, ap, ◌∙◌}
use mathlib.Core.Logic.{◌≢◌}
use mathlib.Core.List.{List, [], ◌∷◌, ◌++◌, append-nil}
use lib.ListN.{length, take, drop, get_or, set, take-append-drop}
use lib.Seq.{lt-length-set, set-set, set_comm, set-get_or, get_or-set_same, get_or-set_other}
use native.Mathlib.Omega.{arith}
use borrow.Author.Tests.{le-leb}
use Rattle.model.specs.Arena.{State, list_of}
use Rattle.model.specs.Calls.{do_split, do_append}
use Rattle.model.specs.Links.{further, distance, target}
use Rattle.model.specs.Lists.{last_key, append}
use Rattle.model.specs.Nodes.{Node, Sorted}
use Rattle.model.proofs.Steps.{further-zero}
use Rattle.model.proofs.Tests.{hit, miss, test}

-- a link over two lists: within the first, or past it into the second
abbrev pub past : ℕ → ℕ → ℕ
past n zero = zero
past n (suc d) = suc (n + d)

abbrev pub join : ℕ → ℕ → ℕ
join zero e = e
join (suc d) e = suc d

pub distance-append : (h : ℕ) (aa bb : List Node) → distance h (aa ++ bb) ≡ join (distance h aa) (past (length aa) (distance h bb))
distance-append h [] bb = zeros (distance h bb)
  where
    zeros : (d : ℕ) → d ≡ past 0 d
    zeros zero = refl
    zeros (suc d) = omega arith
distance-append h (y ∷ ys) bb = elim (test h y.height) [
  | hit e p ↦ rw e refl
  | miss e p ↦ rw (e, distance-append h ys bb) (bumped (distance h ys) (distance h bb))
]
  where
    bumped : (a b : ℕ) → further (join a (past (length ys) b)) ≡ join (further a) (past (suc (length ys)) b)
    bumped zero zero = refl
    bumped zero (suc b) = omega arith
    bumped (suc a) b = refl

pub target-append : (h : ℕ) (aa bb : List Node) → distance h aa ≡ 0 → target h (aa ++ bb) ≡ target h bb
target-append h [] bb e = refl
target-append h (y ∷ ys) bb e = elim (test h y.height) [
  | hit f p ↦ absurd (omega (arith, rw f at e))
  | miss f p ↦ rw f (target-append h ys bb (further-zero (distance h ys) (rw f at e)))
]

-- ---- an append undoes a split ----
last-first : (aa : List Node) (b : Node) (bb : List Node) → Sorted (aa ++ b ∷ bb) → last_key aa ≤ b.key
last-first [] b bb s = omega arith
last-first (a ∷ []) b bb s = s.0.0
last-first (a ∷ c ∷ aa) b bb s = last-first (c ∷ aa) b bb s.1

append-sorted : (aa bb : List Node) → Sorted (aa ++ bb) → append aa bb ≡ aa ++ bb
append-sorted aa [] s = sym (append-nil aa)
append-sorted [] (b ∷ bb) s = refl
append-sorted (a ∷ aa) (b ∷ bb) s = rw (le-leb (last_key (a ∷ aa)) b.key (last-first (a ∷ aa) b bb s)) refl

pub split-append : (i : ℕ) (xs : List Node) → Sorted xs → append (take i xs) (drop i xs) ≡ xs
split-append i xs s = append-sorted (take i xs) (drop i xs) (rw (take-append-drop i xs) s) ∙ take-append-drop i xs

pub split-append-state : (S : State) (a b i : ℕ) → a < length S.lists → b < length S.lists → a ≢ b → list_of S b ≡ [] → Sorted (list_of S a)
    → do_append (do_split S a b i) a b ≡ S
split-append-state S a b i la lb ne e s =
    let ls = S.lists in
    let xs = list_of S a in
    let A = take i xs in
    let B = drop i xs in
    let T = set (set ls a A) b B in
    let ga : get_or T a [] ≡ A = get_or-set_other (set ls a A) b a B [] ne ∙ get_or-set_same ls a A [] la in
    let gb : get_or T b [] ≡ B = get_or-set_same (set ls a A) b B [] (lt-length-set ls a A lb) in
    let p : set (set T a (append (get_or T a []) (get_or T b []))) b [] ≡ ls
    = rw (ga, gb, split-append i xs s, set_comm (set ls a A) b a B xs (λ q. ne (sym q)), set-set, set-set, set-get_or, ← e, set-get_or) refl in
    ap (λ (l : List (List Node)). record { levels = S.levels; room = S.room; lists = l; free = S.free }) p
