-- What the calls answer, in document 01's words: the search's found, place and tally; the key that a removal by key takes out; refusals.
-- Rests on ByKey, Allowed and KeysAfter.
use Prim.Native.Nat.{ℕ, ◌+◌, ◌-◌, ◌/◌}
use mathlib.Core.Path.{◌≡◌, refl, sym, ap, ◌∙◌}
use mathlib.Core.Logic.{◌≢◌}
use mathlib.Core.List.{List}
use lib.ListN.{length, get_or}
use borrow.Author.Tests.{ne_eqb}
use Rattle.model.specs.Arena.{State, list_of}
use Rattle.model.specs.Calls.{Call, search, read, remove_key, remove_index, middle, refusal, searched, keyed, refused, accepted, declined, answer_to}
use Rattle.model.specs.Nodes.{Node, key_at, keys, smaller, smaller_keys}
use Rattle.model.specs.Passes.{Sound}
use Rattle.model.specs.Walks.{ended, is_found, key_walk}
use Rattle.model.proofs.Allowed.{allowed}
use Rattle.model.proofs.ByKey.{key_place, key_place-all, key_found}
use Rattle.model.proofs.Keeps.{sorted-list}
use Rattle.model.proofs.KeysAfter.{key_at_lem}
use Rattle.model.proofs.Tests.{same, other, same?}

-- an accepted call answers number 0 and what `accepted` says
pub answer-accepted : (S : State) (c : Call) → refusal S c ≡ 0 → answer_to S c ≡ accepted S c
answer-accepted S c p = rw p refl

pub declined-number : (n : ℕ) (c : Call) → (declined n c).number ≡ n
declined-number n c = elim (same? n 10) [ same e q ↦ rw e (sym q) | other e q ↦ rw e refl ]

-- "A refusal returns zeros beside its number, except 10"
pub answer-refused : (S : State) (c : Call) → refusal S c ≢ 0 → refusal S c ≢ 10 → answer_to S c ≡ refused (refusal S c)
answer-refused S c n m = rw (ne_eqb (refusal S c) 0 n, ne_eqb (refusal S c) 10 m) refl

module _ (S : State) (v : Sound S) (a k : ℕ) where
  abbrev xs : List Node
  xs = list_of S a

  -- "The public search answers found with index r, or missing with place r, r being the number of smaller keys, and the tally."
  pub search-answers : (allowance : ℕ) → refusal S (search a k allowance) ≡ 0
      → answer_to S (search a k allowance) ≡ searched (is_found (key_walk S.levels k xs)) (smaller_keys k xs) (ended (key_walk S.levels k xs)).tally
  search-answers w p = answer-accepted S (search a k w) p ∙ (rw (key_place-all S.levels k xs (sorted-list S v a)) refl)

  -- "Remove, by key (the first equal) ..., answers the key": the key at the place that it takes out
  pub removal-answers : refusal S (remove_key a k) ≡ 0 → (answer_to S (remove_key a k) ≡ keyed k) × (key_at xs (smaller k xs) ≡ k)
  removal-answers p = (
    answer-accepted S (remove_key a k) p,
    rw (key_place S.levels k xs (sorted-list S v a)) at (key_found S.levels k xs (sorted-list S v a) (allowed S (remove_key a k) p).1).equal,
  )

-- "read, both removes .. a key", and middle the sum of two
module _ (S : State) (a : ℕ) where
  pub read-answers : (i : ℕ) → refusal S (read a i) ≡ 0 → answer_to S (read a i) ≡ keyed (get_or (keys (list_of S a)) i 0)
  read-answers i p = answer-accepted S (read a i) p ∙ ap keyed (key_at_lem (list_of S a) i)

  pub remove-answers : (i : ℕ) → refusal S (remove_index a i) ≡ 0 → answer_to S (remove_index a i) ≡ keyed (get_or (keys (list_of S a)) i 0)
  remove-answers i p = answer-accepted S (remove_index a i) p ∙ ap keyed (key_at_lem (list_of S a) i)

  -- "the sum of the keys at indexes floor((n-1)/2) and floor(n/2)"
  pub middle-answers : refusal S (middle a) ≡ 0
      → let n = length (list_of S a) in answer_to S (middle a) ≡ keyed (get_or (keys (list_of S a)) ((n - 1) / 2) 0 + get_or (keys (list_of S a)) (n / 2) 0)
  middle-answers p = let n = length (list_of S a) in
      answer-accepted S (middle a) p ∙ (λ i. keyed (key_at_lem (list_of S a) ((n - 1) / 2) i + key_at_lem (list_of S a) (n / 2) i))
