-- The limits of the tally (demand 3), of the walk that document 01 tells: by the number of smaller keys, by the largest gap, and on a levelled list.
-- Rests on Searching (the walk's tally is `tally`), Walk, Gap and Levels (its limits).
use Prim.Native.Nat.{ℕ, suc, ◌+◌, ◌*◌, ◌^◌, ◌≤◌, ◌<◌}
use mathlib.Core.Path.{◌≡◌, refl, ap}
use mathlib.Core.Logic.{◌≢◌}
use mathlib.Core.List.{List, [], ◌∷◌}
use lib.ListN.{length, take, get_or-replicate, length-replicate, get_or-eq_default}
use lib.Seq.{get_or-set_same}
use native.Mathlib.Omega.{arith}
use Rattle.model.specs.Arena.{State, list_of, encode, set_up}
use Rattle.model.specs.Calls.{Call, search, read, truncate, clear, middle, level, names, Unnamed, do_truncate, refusal, result_of, Room}
use Rattle.model.specs.Gaps.{Levelled, gap, comparisons, OnlyTruncates, stays, truncates, clears, AllOnlyTruncate}
use Rattle.model.specs.Lists.{level_from}
use Rattle.model.specs.Slices.{Act, setting_up, checking, calling, after, after_all}
use Rattle.model.specs.Nodes.{Node, smaller_keys, Sorted, Low}
use Rattle.model.proofs.EveryCall.{after_any, alike-after}
use Rattle.model.proofs.Slices.{decided, fits, fails}
use Rattle.model.proofs.Frame.{refused-keeps, search_keeps, read_keeps, middle_keeps, other-list}
use Rattle.model.proofs.Gap.{tally-gap}
use Rattle.model.proofs.Levels.{tally-levelled, level_levelled, levelled-take}
use Rattle.model.proofs.Searching.{walk_tally, smaller-all}
use Rattle.model.proofs.Tests.{hit, miss, test}
use Rattle.model.proofs.Walk.{tally_le}

module _ (M t : ℕ) (xs : List Node) (s : Sorted xs) where
  -- r + M + 1, r being the number of smaller keys
  pub within-rank : comparisons M t xs ≤ smaller_keys t xs + M + 1
  within-rank = omega (arith, walk_tally M t xs, tally_le M t xs s, smaller-all t xs s)

  -- (g + 1)(M + 1), g being the largest gap
  pub within-gap : Low M xs → comparisons M t xs ≤ (gap M xs + 1) * (M + 1)
  within-gap w = omega (arith, walk_tally M t xs, tally-gap M t xs s w)

  -- 2M + 2 on a levelled list of fewer than 2 ^ (M + 1) keys, whose largest gap is 1 (Levels, `gap-levelled`)
  pub within-levelled : Levelled M 1 xs → length xs < 2 ^ suc M → comparisons M t xs ≤ 2 * M + 2
  within-levelled w u = omega (arith, walk_tally M t xs, tally-levelled M t xs s u w)

-- ---- which lists are levelled ----
-- list a of a model is levelled
pub record IsLevelled (a : ℕ) (S : State) : Type 0 where
  pub levelled : Levelled S.levels 1 (list_of S a)

no_list : (S : State) (a : ℕ) → length S.lists ≤ a → list_of S a ≡ []
no_list S a l = get_or-eq_default S.lists [] l

pub level_levels : (S : State) (a : ℕ) → IsLevelled a (result_of S (level a))
level_levels S a = elim (test (suc a) (length S.lists)) [
  | hit e p ↦
      let xs = level_from S.levels 1 (list_of S a) in
      rw e (record { levelled = rw (get_or-set_same S.lists a xs [] p) (level_levelled S.levels 1 (list_of S a)) })
  | miss e p ↦ rw e (record { levelled = rw (no_list S a (omega arith)) tt })
]

cut_levelled : (S : State) (a n : ℕ) → IsLevelled a S → a < length S.lists → IsLevelled a (do_truncate S a n)
cut_levelled S a n w p =
    record { levelled = rw (get_or-set_same S.lists a (take n (list_of S a)) [] p) (levelled-take S.levels 1 n (list_of S a) w.levelled) }

-- a list of a new arena is empty
new_empty : (L M C a : ℕ) → list_of (set_up L M C) a ≡ []
new_empty L M C a = elim (test (suc a) L) [
  | hit e p ↦ get_or-replicate L a [] [] p
  | miss e p ↦ no_list (set_up L M C) a (omega (arith, length-replicate {A = List Node} L []))
]

stays-levelled : (S : State) (a : ℕ) (act : Act) → list_of (after S act) a ≡ list_of S a → IsLevelled a S → IsLevelled a (after S act)
stays-levelled S a (setting_up L M C) e w = elim (decided L M C (length (encode S))) [
  | fits f r ↦ rw f (record { levelled = rw (new_empty L M C a) tt })
  | fails f r ↦ rw f w
]
stays-levelled S a checking e w = w
stays-levelled S a (calling c) e w = record { levelled = rw ((alike-after S c).levels, e) w.levelled }

only_truncates_levelled : (S : State) (a : ℕ) (act : Act) → OnlyTruncates a S act → IsLevelled a S → IsLevelled a (after S act)
only_truncates_levelled S a act (stays e) w = stays-levelled S a act e w
only_truncates_levelled S a act (truncates n e) w = rw e (after_any (IsLevelled a) S (truncate a n) (cut_levelled S a n w) w)
only_truncates_levelled S a act (clears e) w = rw e (after_any (IsLevelled a) S (clear a) (cut_levelled S a 0 w) w)

still_levelled : (S : State) (a : ℕ) (acts : List Act) → AllOnlyTruncate a S acts → IsLevelled a S → IsLevelled a (after_all S acts)
still_levelled S a [] k w = w
still_levelled S a (act ∷ acts) k w = still_levelled (after S act) a acts k.1 (only_truncates_levelled S a act k.0 w)

-- list a is levelled after its levelling and calls that leave it as it is or truncate it
pub all-levelled : (S : State) (a : ℕ) (acts : List Act) → AllOnlyTruncate a (result_of S (level a)) acts → IsLevelled a (after_all S (calling (level a) ∷ acts))
all-levelled S a acts k = still_levelled (result_of S (level a)) a acts k (level_levels S a)

-- ---- which calls leave list a as it was: those that are refused, that read, and that name other lists ----
pub set_up_stays : (S : State) (a L M C : ℕ) → ¬ Room L M C (length (encode S)) → OnlyTruncates a S (setting_up L M C)
set_up_stays S a L M C n = elim (decided L M C (length (encode S))) [
  | fits f r ↦ absurd (n r)
  | fails f r ↦ stays (rw f refl)
]

pub check-stays : (S : State) (a : ℕ) → OnlyTruncates a S checking
check-stays S a = stays refl

pub refused-stays : (S : State) (a : ℕ) (c : Call) → refusal S c ≢ 0 → OnlyTruncates a S (calling c)
refused-stays S a c n = stays (ap (λ (T : State). list_of T a) (refused-keeps S c n))

pub search_stays : (S : State) (a b k allowance : ℕ) → OnlyTruncates a S (calling (search b k allowance))
search_stays S a b k allowance = stays (ap (λ (T : State). list_of T a) (search_keeps S b k allowance))

pub read_stays : (S : State) (a b i : ℕ) → OnlyTruncates a S (calling (read b i))
read_stays S a b i = stays (ap (λ (T : State). list_of T a) (read_keeps S b i))

pub middle_stays : (S : State) (a b : ℕ) → OnlyTruncates a S (calling (middle b))
middle_stays S a b = stays (ap (λ (T : State). list_of T a) (middle_keeps S b))

pub other-stays : (S : State) (a : ℕ) (c : Call) → Unnamed a (names c) → OnlyTruncates a S (calling c)
other-stays S a c n = stays (other-list S a c n)
