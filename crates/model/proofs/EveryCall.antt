-- Every call keeps a sound model of its sizes, so that "every arena call but the check, when not refused, leave an arena that passes the check".
-- Set-up makes one. Rests on Keeps (each operation), Allowed (what is accepted) and Builds (the words of a sound model pass).
use Prim.Native.Nat.{ℕ, zero, suc, ◌+◌, ◌≤◌, ◌<◌}
use mathlib.Core.Path.{◌≡◌, refl, ap, ◌∙◌}
use mathlib.Core.List.{List, [], ◌∷◌}
use lib.ListN.{length, set, replicate, length-set, length-replicate}
use native.Mathlib.Omega.{arith}
use borrow.Author.Tests.{ne_eqb}
use Rattle.model.specs.Arena.{State, list_of, up_from, set_up, encode}
use Rattle.model.specs.Calls.{Call, search, read, insert_key, remove_key, remove_index, truncate, clear, split_at}
use Rattle.model.specs.Calls.{split_key, append_list, middle, level, refusal, insert_in, performed, result_of}
use Rattle.model.specs.Nodes.{Node, smaller, Sorted, Low}
use Rattle.model.specs.Passes.{decode, times_all, times_free, Each, Sound, Ranges, Sizes, Passes}
use Rattle.model.proofs.Allowed.{Allowed, allowed}
use Rattle.model.proofs.Builds.{passes-encode}
use Rattle.model.proofs.ByKey.{key_place, key_found}
use Rattle.model.proofs.Keeps.{sorted-list, sound-insert, sound_remove, sound_truncate, sound_level, sound-split, sound-append}
use Rattle.model.proofs.Tests.{same, other, same?}

-- what holds of a model that an accepted call leaves, and of the model before, holds after any call
pub after_any : (P : State → Type 0) (S : State) (c : Call) → (Allowed S c → P (performed S c)) → P S → P (result_of S c)
after_any P S c f p = elim (same? (refusal S c) 0) [ same e q ↦ rw e (f (allowed S c q)) | other e q ↦ rw e p ]

-- ---- sizes ----
pub record Alike (S T : State) : Type 0 where
  pub levels : T.levels ≡ S.levels
  pub room : T.room ≡ S.room
  pub lists : length T.lists ≡ length S.lists

alike : (S : State) → Alike S S
alike S = record { levels = refl; room = refl; lists = refl }

alike_set : (S : State) (a : ℕ) (xs : List Node) (fs : List ℕ) → Alike S (record { levels = S.levels; room = S.room; lists = set S.lists a xs; free = fs })
alike_set S a xs fs = record { levels = refl; room = refl; lists = length-set S.lists a xs }

alike_set2 : (S : State) (a b : ℕ) (xs ys : List Node) → Alike S (record { levels = S.levels; room = S.room; lists = set (set S.lists a xs) b ys; free = S.free })
alike_set2 S a b xs ys = record { levels = refl; room = refl; lists = length-set (set S.lists a xs) b ys ∙ length-set S.lists a xs }

alike-insert : (S : State) (a k h : ℕ) (fs : List ℕ) → Alike S (insert_in S a k h fs)
alike-insert S a k h [] = alike S
alike-insert S a k h (f ∷ fs) = alike_set S a _ fs

alike-performed : (S : State) (c : Call) → Alike S (performed S c)
alike-performed S (search a k w) = alike S
alike-performed S (read a i) = alike S
alike-performed S (insert_key a k h) = alike-insert S a k h S.free
alike-performed S (remove_key a k) = alike_set S a _ _
alike-performed S (remove_index a i) = alike_set S a _ _
alike-performed S (truncate a n) = alike_set S a _ _
alike-performed S (clear a) = alike_set S a _ _
alike-performed S (split_at a b i) = alike_set2 S a b _ _
alike-performed S (split_key a b k) = alike_set2 S a b _ _
alike-performed S (append_list a b) = alike_set2 S a b _ _
alike-performed S (middle a) = alike S
alike-performed S (level a) = alike_set S a _ _

-- L, M and C stay
pub alike-after : (S : State) (c : Call) → Alike S (result_of S c)
alike-after S c = after_any (Alike S) S c (λ p. alike-performed S c) (alike S)

pub alike-sizes : {S T : State} → Alike S T → Sizes S → Sizes T
alike-sizes {S} {T} a z = rw (a.lists, a.levels, a.room) z

-- ---- soundness ----
insert-sound : (S : State) → Sound S → (a k h : ℕ) → a < length S.lists → h ≤ S.levels → (fs : List ℕ) → S.free ≡ fs → 0 < length fs → Sound (insert_in S a k h fs)
insert-sound S v a k h la l [] e z = absurd (omega arith)
insert-sound S v a k h la l (f ∷ fs) e z = sound-insert S v a la f fs k h e l

-- a key that the search finds stands at the number of smaller keys
pub found_within : (S : State) → Sound S → (a k : ℕ) → Allowed S (remove_key a k) → smaller k (list_of S a) < length (list_of S a)
found_within S v a k p =
    let s = sorted-list S v a in
    rw (key_place S.levels k (list_of S a) s) at (key_found S.levels k (list_of S a) s p.1).within

sound-performed : (S : State) → Sound S → (c : Call) → Allowed S c → Sound (performed S c)
sound-performed S v (search a k w) p = v
sound-performed S v (read a i) p = v
sound-performed S v (insert_key a k h) p = insert-sound S v a k h p.0 p.1 S.free refl p.2
sound-performed S v (remove_key a k) p = sound_remove S v a p.0 (smaller k (list_of S a)) (found_within S v a k p)
sound-performed S v (remove_index a i) p = sound_remove S v a p.0 i p.1
sound-performed S v (truncate a n) p = sound_truncate S v a p n
sound-performed S v (clear a) p = sound_truncate S v a p 0
sound-performed S v (split_at a b i) p = sound-split S v a p.0.0 b p.0.1 p.0.2 i p.1
sound-performed S v (split_key a b k) p = sound-split S v a p.0.0 b p.0.1 p.0.2 (smaller k (list_of S a)) p.1
sound-performed S v (append_list a b) p = sound-append S v a p.0 b p.1 p.2
sound-performed S v (middle a) p = v
sound-performed S v (level a) p = sound_level S v a p

pub sound-after : (S : State) → Sound S → (c : Call) → Sound (result_of S c)
sound-after S v c = after_any Sound S c (sound-performed S v c) v

pub kept : {S : State} → Sound S → Sizes S → (c : Call) → Sound (result_of S c) × Sizes (result_of S c)
kept {S} v z c = (sound-after S v c, alike-sizes (alike-after S c) z)

pub passes-after : {w : List ℕ} → Passes w → (c : Call) → Passes (encode (result_of (decode w) c))
passes-after {w} p c = let k = kept p.sound p.sizes c in passes-encode (result_of (decode w) c) k.0 k.1

-- ---- set-up ----
each-empty : (P : List Node → Type 0) → P [] → (n : ℕ) → Each P (replicate n [])
each-empty P p zero = tt
each-empty P p (suc n) = (p, each-empty P p n)

times-empty : (s n : ℕ) → times_all s (replicate n []) ≡ 0
times-empty s zero = refl
times-empty s (suc n) = omega (arith, times-empty s n)

up_before : (s f n : ℕ) → s < f → times_free s (up_from f n) ≡ 0
up_before s f zero l = refl
up_before s f (suc n) l = rw (ne_eqb f s (λ e. omega arith)) (up_before s (suc f) n (omega arith))

up_in : (s f n : ℕ) → f ≤ s → s < f + n → times_free s (up_from f n) ≡ 1
up_in s f zero l k = absurd (omega arith)
up_in s f (suc n) l k = elim (same? f s) [
  | same e p ↦ rw e (ap suc (up_before s (suc f) n (omega arith)))
  | other e p ↦ rw e (up_in s (suc f) n (omega arith) (omega arith))
]

up_after : (s f n : ℕ) → f + n ≤ s → times_free s (up_from f n) ≡ 0
up_after s f zero l = refl
up_after s f (suc n) l = rw (ne_eqb f s (λ e. omega arith)) (up_after s (suc f) n (omega arith))

pub set_up_sound : (L M C : ℕ) → Sound (set_up L M C)
set_up_sound L M C =
    let n : length (set_up L M C).lists ≡ L = length-replicate L [] in
    record {
      sorted = each-empty Sorted tt L;
      low = each-empty (Low M) tt L;
      once = λ s p q. omega (arith, times-empty s L, up_in s L C (omega arith) (omega arith));
      no_head = λ s p. omega (arith, times-empty s L, up_before s L C (omega arith));
      no_more = λ s p. omega (arith, times-empty s L, up_after s L C (omega arith));
    }

pub set_up_sizes : {L M C : ℕ} → Ranges L M C → Sizes (set_up L M C)
set_up_sizes {L} {M} {C} r =
    let n : length (set_up L M C).lists ≡ L = length-replicate L [] in
    rw n r

pub set_up_passes : {L M C : ℕ} → Ranges L M C → Passes (encode (set_up L M C))
set_up_passes {L} {M} {C} r = passes-encode (set_up L M C) (set_up_sound L M C) (set_up_sizes r)
