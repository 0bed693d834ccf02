-- Append's cases in document 01's order: of the nodes, and of the model that each step leaves. Rests on model's Keeps.
use Prim.Native.Nat.{ℕ, suc, ◌≤◌, ◌<◌}
use mathlib.Core.Path.{◌≡◌, refl, sym, ap, ◌∙◌}
use mathlib.Core.Bool.{Bool, true, false}
use mathlib.Core.List.{List, [], ◌∷◌, ◌++◌}
use lib.ListN.{length, set}
use lib.Seq.{set-get_or}
use native.Mathlib.Omega.{arith}
use borrow.Author.Tests.{le-leb, lt-leb}
use Rattle.model.specs.Closed.{do_join}
use Rattle.model.specs.Nodes.{Node, key_at, Sorted}
use Rattle.model.specs.Lists.{last_key, merge_in, append}
use Rattle.model.specs.Arena.{State, put_list, encode}
use Rattle.model.specs.Calls.{do_append}
use Rattle.model.specs.Passes.{decode, nodes}
use Rattle.arena.specs.Decides.{Decides}
use Rattle.arena.specs.Owners.{TwoLists}
use Rattle.arena.proofs.Deciding.{yes, no}
use Rattle.join.specs.Joins.{Joins}
use Rattle.join_before.specs.Preceded.{do_join_before}
use Rattle.merge.specs.Merged.{do_merge}
use Rattle.model.proofs.Keeps.{sorted-join, sorted-list}
use Rattle.model.proofs.Splitting.{with_lists}
use Rattle.model.proofs.Allowed.{no_length}
use Rattle.model.proofs.Tests.{hit, miss, test}

-- ---- what a comparison of two keys tells: k is x, and i is y ----
module _ {r : Bool} {k i x y : ℕ} (told : Decides r (k < i)) (ek : k ≡ x) (ei : i ≡ y) where
  pub is_below : r ≡ true → x < y
  is_below e = omega (arith, yes told e)

  pub at_most : r ≡ false → y ≤ x
  at_most e = elim (test (suc x) y) [
    | hit f q ↦ absurd (no told e (omega arith))
    | miss f q ↦ omega arith
  ]

-- ---- the nodes ----
nothing-to_add : (aa bb : List Node) → length bb ≡ 0 → append aa bb ≡ aa
nothing-to_add [] [] e = refl
nothing-to_add (a ∷ aa) [] e = refl
nothing-to_add aa (b ∷ bb) e = absurd (omega arith)

onto_empty : (aa bb : List Node) → length aa ≡ 0 → append aa bb ≡ aa ++ bb
onto_empty [] [] e = refl
onto_empty [] (b ∷ bb) e = refl
onto_empty (a ∷ aa) bb e = absurd (omega arith)

follows : (aa bb : List Node) → 0 < length aa → 0 < length bb → last_key aa ≤ key_at bb 0 → append aa bb ≡ aa ++ bb
follows [] bb k l e = absurd (omega arith)
follows (a ∷ aa) [] k l e = absurd (omega arith)
follows (a ∷ aa) (b ∷ bb) k l e = rw (le-leb (last_key (a ∷ aa)) b.key e) refl

precedes : (aa bb : List Node) → 0 < length aa → 0 < length bb → key_at bb 0 < last_key aa → last_key bb ≤ key_at aa 0 → append aa bb ≡ bb ++ aa
precedes [] bb k l e f = absurd (omega arith)
precedes (a ∷ aa) [] k l e f = absurd (omega arith)
precedes (a ∷ aa) (b ∷ bb) k l e f = rw (lt-leb (last_key (a ∷ aa)) b.key e, le-leb (last_key (b ∷ bb)) a.key f) refl

merges : (aa bb : List Node) → 0 < length aa → 0 < length bb → key_at bb 0 < last_key aa → key_at aa 0 < last_key bb → append aa bb ≡ merge_in bb aa
merges [] bb k l e f = absurd (omega arith)
merges (a ∷ aa) [] k l e f = absurd (omega arith)
merges (a ∷ aa) (b ∷ bb) k l e f = rw (lt-leb (last_key (a ∷ aa)) b.key e, lt-leb (last_key (b ∷ bb)) a.key f) refl

sorted_after : (aa bb : List Node) → Sorted aa → Sorted bb → 0 < length bb → last_key aa ≤ key_at bb 0 → Sorted (aa ++ bb)
sorted_after aa [] s r l e = absurd (omega arith)
sorted_after aa (b ∷ bb) s r l e = sorted-join aa b bb s r e

sorted-alone : (aa bb : List Node) → length aa ≡ 0 → Sorted bb → Sorted (aa ++ bb)
sorted-alone [] bb e s = s
sorted-alone (a ∷ aa) bb e s = absurd (omega arith)

-- ---- the lists ----
module _ {w : List ℕ} {m a b : ℕ} (p : TwoLists w m a b) where
  abbrev S : State
  S = decode w

  abbrev A : List Node
  A = nodes w a

  abbrev B : List Node
  B = nodes w b

  sorted-a : Sorted A
  sorted-a = sorted-list S p.first.passes.sound a

  sorted-b : Sorted B
  sorted-b = sorted-list S p.first.passes.sound b

  appended : (xs : List Node) → append A B ≡ xs → put_list (put_list S a xs S.free) b [] S.free ≡ do_append S a b
  appended xs e = ap (λ (t : List Node). put_list (put_list S a t S.free) b [] S.free) (sym e)

  -- "b empty, nothing"
  pub unchanged : length B ≡ 0 → w ≡ encode (do_append S a b)
  unchanged e =
      let none : B ≡ [] = no_length B e in
      let same-b : set S.lists b [] ≡ S.lists = ap (set S.lists b) (sym none) ∙ set-get_or S.lists b [] in
      let same-a : set (set S.lists a A) b [] ≡ S.lists = ap (λ (t : List (List Node)). set t b []) (set-get_or S.lists a []) ∙ same-b in
      p.first.passes.words ∙ ap encode (
      ap (with_lists S) (sym same-a) ∙ appended A (nothing-to_add A B e)
      )

  -- "a is empty"
  pub can_join-empty : 0 < length B → length A ≡ 0 → Joins w m a b
  can_join-empty l e = record { onto = p.first; from = p.second; apart = p.apart; some = l; sorted = sorted-alone A B e sorted-b }

  pub joined-empty : length A ≡ 0 → {u : List ℕ} → u ≡ encode (do_join S a b) → u ≡ encode (do_append S a b)
  joined-empty e q = q ∙ ap encode (appended (A ++ B) (onto_empty A B e))

  module _ (some-a : 0 < length A) (some-b : 0 < length B) where
    -- "its last key is at most b's first"
    pub can_join : last_key A ≤ key_at B 0 → Joins w m a b
    can_join l = record { onto = p.first; from = p.second; apart = p.apart; some = some-b; sorted = sorted_after A B sorted-a sorted-b some-b l }

    pub joined : last_key A ≤ key_at B 0 → {u : List ℕ} → u ≡ encode (do_join S a b) → u ≡ encode (do_append S a b)
    joined l q = q ∙ ap encode (appended (A ++ B) (follows A B some-a some-b l))

    -- "b's last is at most a's first"
    pub can_precede : last_key B ≤ key_at A 0 → Joins w m b a
    can_precede l = record { onto = p.second; from = p.first; apart = λ e. p.apart (sym e); some = some-a; sorted = sorted_after B A sorted-b sorted-a some-a l }

    pub preceded : key_at B 0 < last_key A → last_key B ≤ key_at A 0 → {u : List ℕ} → u ≡ encode (do_join_before S a b) → u ≡ encode (do_append S a b)
    preceded k l q = q ∙ ap encode (appended (B ++ A) (precedes A B some-a some-b k l))

    -- else
    pub merged : key_at B 0 < last_key A → key_at A 0 < last_key B → {u : List ℕ} → u ≡ encode (do_merge S a b) → u ≡ encode (do_append S a b)
    merged k l q = q ∙ ap encode (appended (merge_in B A) (merges A B some-a some-b k l))
