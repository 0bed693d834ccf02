-- Each operation leaves a sound model. Rests on Ordering (the lists that it makes) and Levels.
use Prim.Native.Nat.{ℕ, zero, suc, ◌+◌, ◌≤◌, ◌<◌}
use mathlib.Core.Path.{◌≡◌, refl, sym, ap, ◌∙◌}
use mathlib.Core.Logic.{◌≢◌}
use mathlib.Core.List.{List, [], ◌∷◌}
use lib.ListN.{length, take, drop, get_or, set, length-set}
use lib.Seq.{get_or-set_other, lt-length-set, drop-cons}
use native.Mathlib.Nat.{not-suc-le-zero}
use native.Mathlib.Omega.{arith}
use Rattle.model.specs.Arena.{State, list_of, put_list}
use Rattle.model.specs.Calls.{insert_in, do_remove, do_truncate, do_split, do_append, do_level}
use Rattle.model.specs.Lists.{insert_at, remove_at, freed, append, level_from}
use Rattle.model.specs.Nodes.{smaller, Node, node, N, Sorted, Low}
use Rattle.model.specs.Passes.{times, times_all, times_free, Each, Sound}
use Rattle.model.proofs.Levels.{low-levelled, level_levelled}
use Rattle.model.proofs.Ordering.{times_cut, times_self, times_free_cons, times-freed, low_cut, sorted_cut, sorted_remove, sorted_level, times_level}
pub use Rattle.model.proofs.Ordering.{times-append, low-append, sorted_insert, sorted-join, Made, append-made}
use Rattle.model.proofs.Tests.{same, other, same?}

times_all-set : (s : ℕ) (xss : List (List Node)) (a : ℕ) (ys : List Node) → a < length xss → times_all s (set xss a ys) + times s (get_or xss a []) ≡ times_all s xss + times s ys
times_all-set s [] a ys l = absurd (not-suc-le-zero l)
times_all-set s (xs ∷ xss) zero ys l = omega arith
times_all-set s (xs ∷ xss) (suc a) ys l = omega (arith, times_all-set s xss a ys (omega arith))

each_set : (P : List Node → Type 0) (xss : List (List Node)) (a : ℕ) (ys : List Node) → Each P xss → P ys → Each P (set xss a ys)
each_set P [] a ys e p = e
each_set P (xs ∷ xss) zero ys e p = (p, e.1)
each_set P (xs ∷ xss) (suc a) ys e p = (e.0, each_set P xss a ys e.1 p)

pub each_get : (P : List Node → Type 0) (xss : List (List Node)) (a : ℕ) → P [] → Each P xss → P (get_or xss a [])
each_get P [] a n e = n
each_get P (xs ∷ xss) zero n e = e.0
each_get P (xs ∷ xss) (suc a) n e = each_get P xss a n e.1

-- the keys of a list of a sound model never fall, and its heights are at most M
pub sorted-list : (S : State) → Sound S → (a : ℕ) → Sorted (list_of S a)
sorted-list S v a = each_get Sorted S.lists a tt v.sorted

pub low-list : (S : State) → Sound S → (a : ℕ) → Low S.levels (list_of S a)
low-list S v a = each_get (Low S.levels) S.lists a tt v.low

-- one list and the free chain change
sound-put : (S : State) (a : ℕ) (ys : List Node) (fs : List ℕ) → a < length S.lists → Sound S → Sorted ys → Low S.levels ys
    → ((s : ℕ) → times s ys + times_free s fs ≡ times s (list_of S a) + times_free s S.free) → Sound (put_list S a ys fs)
sound-put S a ys fs l v so lo f =
    let len = length-set S.lists a ys in
    let tot : (s : ℕ) → times_all s (set S.lists a ys) + times_free s fs ≡ times_all s S.lists + times_free s S.free
    = λ s. omega (arith, times_all-set s S.lists a ys l, f s) in
    record {
      sorted = each_set Sorted S.lists a ys v.sorted so;
      low = each_set (Low S.levels) S.lists a ys v.low lo;
      once = λ s p q. tot s ∙ v.once s (omega arith) (omega arith);
      no_head = λ s p. tot s ∙ v.no_head s (omega arith);
      no_more = λ s p. tot s ∙ v.no_more s (omega arith);
    }

-- two lists change
pub sound_put2 : (S : State) (a b : ℕ) (xs ys : List Node) → a < length S.lists → b < length S.lists → a ≢ b → Sound S
    → Sorted xs → Low S.levels xs → Sorted ys → Low S.levels ys
    → ((s : ℕ) → times s xs + times s ys ≡ times s (list_of S a) + times s (list_of S b)) → Sound (put_list (put_list S a xs S.free) b ys S.free)
sound_put2 S a b xs ys la lb ne v so lo so2 lo2 f =
    let A = set S.lists a xs in
    let len = length-set S.lists a xs in
    let len2 = length-set A b ys in
    let g : get_or A b [] ≡ list_of S b = get_or-set_other S.lists a b xs [] (λ q. ne (sym q)) in
    let tot : (s : ℕ) → times_all s (set A b ys) + times_free s S.free ≡ times_all s S.lists + times_free s S.free
    = λ s. omega (arith, times_all-set s S.lists a xs la, rw g at (times_all-set s A b ys (lt-length-set S.lists a xs lb)), f s) in
    record {
      sorted = each_set Sorted A b ys (each_set Sorted S.lists a xs v.sorted so) so2;
      low = each_set (Low S.levels) A b ys (each_set (Low S.levels) S.lists a xs v.low lo) lo2;
      once = λ s p q. tot s ∙ v.once s (omega arith) (omega arith);
      no_head = λ s p. tot s ∙ v.no_head s (omega arith);
      no_more = λ s p. tot s ∙ v.no_more s (omega arith);
    }

-- ---- the operations ----
module _ (S : State) (v : Sound S) (a : ℕ) (la : a < length S.lists) where
  -- at any place where the keys stay in order
  pub sound-insert-at : (f : ℕ) (fs : List ℕ) (i k h : ℕ) → S.free ≡ f ∷ fs → h ≤ S.levels → Sorted (insert_at i (node f k h) (list_of S a))
      → Sound (put_list S a (insert_at i (node f k h) (list_of S a)) fs)
  sound-insert-at f fs i k h e l so =
      let n = node f k h in
      let xs = list_of S a in
      let c = low_cut S.levels i xs (low-list S v a) in
      sound-put S a (insert_at i n xs) fs la v so (low-append S.levels (take i xs) (n ∷ drop i xs) c.0 (l, c.1))
      (λ s. rw e (elim (same? f s) [
        | same g q ↦ rw g (omega (arith, times_cut s i xs, rw g at (times-append s (take i xs) (n ∷ drop i xs))))
        | other g q ↦ rw g (omega (arith, times_cut s i xs, rw g at (times-append s (take i xs) (n ∷ drop i xs))))
      ]))

  pub sound-insert : (f : ℕ) (fs : List ℕ) (k h : ℕ) → S.free ≡ f ∷ fs → h ≤ S.levels → Sound (insert_in S a k h (f ∷ fs))
  sound-insert f fs k h e l = sound-insert-at f fs (smaller k (list_of S a)) k h e l (sorted_insert (node f k h) (list_of S a) (sorted-list S v a))

  pub sound_truncate : (n : ℕ) → Sound (do_truncate S a n)
  sound_truncate n =
      sound-put S a (take n (list_of S a)) (freed (drop n (list_of S a)) S.free) la v (sorted_cut n (list_of S a) (sorted-list S v a)).0
      (low_cut S.levels n (list_of S a) (low-list S v a)).0
      (λ s. omega (arith, times-freed s (drop n (list_of S a)) S.free, times_cut s n (list_of S a)))

  pub sound_level : Sound (do_level S a)
  sound_level =
      let M = S.levels in
      let xs = level_from M 1 (list_of S a) in
      sound-put S a xs S.free la v (sorted_level M 1 (list_of S a) (sorted-list S v a)) (low-levelled M 1 xs (level_levelled M 1 (list_of S a)))
      (λ s. rw (times_level M s 1 (list_of S a)) refl)

  module _ (b : ℕ) (lb : b < length S.lists) (ne : a ≢ b) where
    pub sound-split : (i : ℕ) → list_of S b ≡ [] → Sound (do_split S a b i)
    sound-split i e =
        let c = sorted_cut i (list_of S a) (sorted-list S v a) in
        let w = low_cut S.levels i (list_of S a) (low-list S v a) in
        sound_put2 S a b (take i (list_of S a)) (drop i (list_of S a)) la lb ne v c.0 w.0 c.1 w.1 (λ s. rw e (omega (arith, times_cut s i (list_of S a))))

    pub sound-append : Sound (do_append S a b)
    sound-append =
        let m = append-made S.levels (list_of S a) (list_of S b) (sorted-list S v a) (sorted-list S v b) (low-list S v a) (low-list S v b) in
        sound_put2 S a b (append (list_of S a) (list_of S b)) [] la lb ne v m.sorted m.low tt tt (λ s. omega (arith, m.slots s))

pub sound_remove : (S : State) → Sound S → (a : ℕ) → a < length S.lists → (i : ℕ) → i < length (list_of S a) → Sound (do_remove S a i)
sound_remove S v a la i l =
    let xs = list_of S a in
    let y = get_or xs i (node N 0 0) in
    let w = low-list S v a in
    sound-put S a (remove_at i xs) (y.slot ∷ S.free) la v (sorted_remove i xs (sorted-list S v a))
    (low-append S.levels (take i xs) (drop (suc i) xs) (low_cut S.levels i xs w).0 (low_cut S.levels (suc i) xs w).1)
    (λ s. omega (
      arith,
      times-append s (take i xs) (drop (suc i) xs),
      times-append s (y ∷ []) (drop (suc i) xs),
      times_cut s i xs,
      ap (times s) (drop-cons xs i (node N 0 0) l),
      times_self s y,
      times_free_cons s y.slot S.free,
    ))
