-- The place where a key goes in: before the first key not below it, so behind the smaller ones, where the keys stay in order. Rests on model's Keeps.
use Prim.Native.Nat.{ℕ, ◌≤◌, ◌<◌}
use mathlib.Core.Path.{◌≡◌, refl, ap, ◌∙◌}
use mathlib.Core.List.{List, [], ◌∷◌}
use lib.ListN.{length}
use native.Mathlib.Omega.{arith}
use Rattle.model.specs.Nodes.{node, smaller, Sorted}
use Rattle.model.specs.Arena.{State, first_free, list_of, encode}
use Rattle.model.specs.Calls.{insert_in, do_insert}
use Rattle.model.specs.Passes.{decode, nodes}
use Rattle.model.proofs.Keeps.{each_get, sorted_insert}
use Rattle.model.proofs.Walk.{smaller_le}
use Rattle.arena.specs.Owners.{Listed}
use Rattle.level_links.specs.AtIndex.{inserted_at, CanInsert}

inserted_in : (S : State) (a k h : ℕ) (fs : List ℕ) → 0 < length fs → S.free ≡ fs → inserted_at S a (smaller k (list_of S a)) k h ≡ insert_in S a k h fs
inserted_in S a k h [] l e = absurd (omega arith)
inserted_in S a k h (f ∷ fs) l e = rw e refl

module _ {w : List ℕ} {m a : ℕ} (p : Listed w m a) (k h : ℕ) (room : 0 < length (decode w).free) {i : ℕ} (place : i ≡ smaller k (nodes w a)) where
  pub goes_in : h ≤ m → CanInsert w m a i k h
  goes_in l = rw place (record {
    listed = p;
    height = l;
    room = room;
    within = smaller_le k (nodes w a);
    sorted = sorted_insert (node (first_free (decode w).free) k h) (nodes w a) (each_get Sorted (decode w).lists a tt p.passes.sound.sorted);
  })

  pub as-inserted : encode (inserted_at (decode w) a i k h) ≡ encode (do_insert (decode w) a k h)
  as-inserted = ap encode (ap (λ (j : ℕ). inserted_at (decode w) a j k h) place ∙ inserted_in (decode w) a k h (decode w).free room refl)
