-- A removal by key: what the search without an allowance tells, and what the removal answers and leaves. Rests on model's ByKey and Allowed.
use Prim.Native.Nat.{ℕ, ◌≤◌}
use Rattle.std.specs.Prelude.{Ok, Err}
use mathlib.Core.Path.{◌≡◌, refl, ap, ◌∙◌}
use mathlib.Core.Logic.{◌≢◌}
use mathlib.Core.Bool.{Bool, true, false, cond}
use mathlib.Core.List.{List}
use lib.ListN.{length}
use native.Mathlib.Omega.{arith}
use borrow.Author.Tests.{lt-ltb}
use Rattle.model.specs.Nodes.{Node, key_at, smaller, Sorted}
use Rattle.model.specs.Walks.{End, ended, is_found, key_walk}
use Rattle.model.specs.Arena.{State, encode}
use Rattle.model.specs.Calls.{Answer, accepted, answer_to, search, remove_key, do_remove, searched, keyed}
use Rattle.model.specs.Passes.{decode, nodes}
use Rattle.model.proofs.Allowed.{not_refused}
use Rattle.model.proofs.ByKey.{key_place, key_found}
use Rattle.model.proofs.Counting.{list_few}
use Rattle.model.proofs.EveryCall.{found_within}
use Rattle.model.proofs.Keeps.{each_get}
use Rattle.model.proofs.Searching.{walk_tally}
use Rattle.model.proofs.Walk.{smaller_le, tally_le}
use Rattle.arena.specs.Owners.{Listed, NodeThere}
use Rattle.arena.specs.declared.Index.{Index}
use Rattle.key_walk.specs.SearchAnswer.{answer_of}
use Rattle.key_walk.specs.declared.Searched.TheVariants.{Found}
use Rattle.key_walk.specs.declared.Beyond.{Beyond}
use Rattle.answers.specs.Kept.{Kept}

module _ {w : List ℕ} {m a : ℕ} (p : Listed w m a) (k : ℕ) where
  abbrev S : State
  S = decode w

  abbrev xs : List Node
  xs = nodes w a

  sorted : Sorted xs
  sorted = each_get Sorted S.lists a tt p.passes.sound.sorted

  abbrev walked : End
  walked = key_walk S.levels k xs

  unlimited : (ended walked).tally ≤ 4294967295
  unlimited = omega (
    arith,
    walk_tally S.levels k xs,
    tally_le S.levels k xs sorted,
    smaller_le k xs,
    list_few S p.passes.sound a,
    p.passes.sizes.room_most,
    p.passes.sizes.levels_most,
  )

  asked : answer_to S (search a k 4294967295) ≡ accepted S (search a k 4294967295)
  asked = rw (not_refused S (search a k 4294967295) (p.list, unlimited)) refl

  met : (b : Bool) {n : ℕ} → n ≡ cond b 1 0 → n ≡ 1 → b ≡ true
  met true d e = refl
  met false d e = absurd (omega arith)

  -- the search without an allowance is never refused
  pub enough : {b : Beyond} → answer_of (Err b) ≢ answer_to S (search a k 4294967295)
  enough e = absurd (omega (arith, ap (λ (x : Answer). x.number) (e ∙ asked)))

  -- it answered that the key is found
  module _ {i : Index} {n : ℕ} (e : answer_of (Ok (Found i n)) ≡ answer_to S (search a k 4294967295)) where
    told : searched true i.0 n ≡ accepted S (search a k 4294967295)
    told = e ∙ asked

    found : is_found walked ≡ true
    found = met (is_found walked) (ap (λ (x : Answer). x.found) told) refl

    place_is : i.0 ≡ smaller k xs
    place_is = ap (λ (x : Answer). x.place) told ∙ key_place S.levels k xs sorted

    key_is_lem : key_at xs i.0 ≡ k
    key_is_lem = rw (place_is, ← key_place S.levels k xs sorted) (key_found S.levels k xs sorted found).equal

    pub goes_out : NodeThere w m a i.0
    goes_out = rw place_is (record { listed = p; index = found_within S p.passes.sound a k (p.list, found) })

    pub removed_words : {x : ℕ} {u : List ℕ} → u ≡ encode (do_remove S a i.0) → x ≡ key_at xs i.0 → Kept (remove_key a k) w u (keyed x)
    removed_words eu ex = record {
      answered = rw (lt-ltb a (length S.lists) p.list, found) (ap keyed (ex ∙ key_is_lem));
      left = rw (lt-ltb a (length S.lists) p.list, found) (eu ∙ ap (λ (j : ℕ). encode (do_remove S a j)) place_is);
    }
