-- "Only the named lists, their nodes and the free chain change": a call leaves every record of a list that it does not name, and of the header only
-- the two words of the free chain change. A refused call, and one that only reads, changes nothing.
-- Rests on EveryCall and Records (the record of a slot in the words of a sound model).
use Prim.Native.Nat.{ℕ, ◌<◌}
use mathlib.Core.Path.{◌≡◌, refl, sym, ap, ◌∙◌}
use mathlib.Core.Logic.{◌≢◌}
use mathlib.Core.List.{List, [], ◌∷◌}
use lib.ListN.{length, get_or, set}
use lib.Seq.{get_or-set_other}
use native.Mathlib.Omega.{arith}
use Rattle.model.specs.Claims.{Untouched}
use Rattle.model.specs.Arena.{State, list_of, node_words, encode}
use Rattle.model.specs.Calls.{Call, search, read, insert_key, remove_key, remove_index, truncate, clear, split_at, split_key}
use Rattle.model.specs.Calls.{append_list, middle, level, names, Unnamed, refusal, insert_in, performed, result_of}
use Rattle.model.specs.Cells.{record_at}
use Rattle.model.specs.Nodes.{Node}
use Rattle.model.specs.Passes.{Sound}
use Rattle.model.proofs.EveryCall.{Alike, after_any, alike-after, sound-after}
use Rattle.model.proofs.Records.{rec_encode, head_words_lem, record_node}
use Rattle.model.proofs.Tests.{same, other, same?}

-- ---- calls that change nothing ----
pub refused-keeps : (S : State) (c : Call) → refusal S c ≢ 0 → result_of S c ≡ S
refused-keeps S c n = elim (same? (refusal S c) 0) [ same e q ↦ absurd (n q) | other e q ↦ rw e refl ]

module _ (S : State) where
  pub search_keeps : (a k allowance : ℕ) → result_of S (search a k allowance) ≡ S
  search_keeps a k allowance = after_any (λ T. T ≡ S) S (search a k allowance) (λ p. refl) refl

  pub read_keeps : (a i : ℕ) → result_of S (read a i) ≡ S
  read_keeps a i = after_any (λ T. T ≡ S) S (read a i) (λ p. refl) refl

  pub middle_keeps : (a : ℕ) → result_of S (middle a) ≡ S
  middle_keeps a = after_any (λ T. T ≡ S) S (middle a) (λ p. refl) refl

-- ---- the lists that a call does not name ----
module _ (S : State) (b : ℕ) where
  one_set : (a : ℕ) (xs : List Node) → b ≢ a → get_or (set S.lists a xs) b [] ≡ list_of S b
  one_set a xs n = get_or-set_other S.lists a b xs [] n

  two-set : (a c : ℕ) (xs ys : List Node) → b ≢ a → b ≢ c → get_or (set (set S.lists a xs) c ys) b [] ≡ list_of S b
  two-set a c xs ys n m = get_or-set_other (set S.lists a xs) c b ys [] m ∙ one_set a xs n

  insert-other : (a k h : ℕ) (fs : List ℕ) → b ≢ a → list_of (insert_in S a k h fs) b ≡ list_of S b
  insert-other a k h [] n = refl
  insert-other a k h (f ∷ fs) n = one_set a _ n

  other-performed : (c : Call) → Unnamed b (names c) → list_of (performed S c) b ≡ list_of S b
  other-performed (search a k w) n = refl
  other-performed (read a i) n = refl
  other-performed (insert_key a k h) n = insert-other a k h S.free n.0
  other-performed (remove_key a k) n = one_set a _ n.0
  other-performed (remove_index a i) n = one_set a _ n.0
  other-performed (truncate a i) n = one_set a _ n.0
  other-performed (clear a) n = one_set a _ n.0
  other-performed (split_at a d i) n = two-set a d _ _ n.0 n.1.0
  other-performed (split_key a d k) n = two-set a d _ _ n.0 n.1.0
  other-performed (append_list a d) n = two-set a d _ _ n.0 n.1.0
  other-performed (middle a) n = refl
  other-performed (level a) n = one_set a _ n.0

  pub other-list : (c : Call) → Unnamed b (names c) → list_of (result_of S c) b ≡ list_of S b
  other-list c n = after_any (λ T. list_of T b ≡ list_of S b) S c (λ p. other-performed c n) refl

-- ---- their words ----
untouched : (S T : State) → Sound S → Sound T → Alike S T → (b : ℕ) → b < length S.lists → list_of T b ≡ list_of S b → Untouched S T b
untouched S T v u k b l e =
    let in_T : b < length T.lists = omega (arith, k.lists) in
    let at-T : (s : ℕ) → record_at S.levels (encode T) s ≡ record_at T.levels (encode T) s = λ s. ap (λ (m : ℕ). record_at m (encode T) s) (sym k.levels) in
    record {
      head = at-T b ∙ rec_encode T b (omega arith) ∙ head_words_lem T b in_T ∙ (rw (k.levels, e) refl) ∙ sym (head_words_lem S b l) ∙ sym (rec_encode S b (omega arith));
      node = λ aa y ys f.
          at-T y.slot ∙ record_node T u b aa y ys in_T (e ∙ f) ∙ ap (λ (m : ℕ). node_words m y ys) k.levels ∙ sym (record_node S v b aa y ys l f);
    }

pub frame : (S : State) → Sound S → (c : Call) (b : ℕ) → b < length S.lists → Unnamed b (names c) → Untouched S (result_of S c) b
frame S v c b l n = untouched S (result_of S c) v (sound-after S v c) (alike-after S c) b l (other-list S b c n)
