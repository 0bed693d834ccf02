-- The whole order, each field filled by its theorem: `order` is what a reader of the promises may rely on. Rests on all files of theorems.
use Prim.Native.Nat.{ℕ, suc, ◌≤◌, ◌<◌}
use mathlib.Core.Path.{◌≡◌, refl, sym, ap, ◌∙◌, subst}
use mathlib.Core.Bool.{Bool, true, false, cond}
use mathlib.Core.Logic.{◌≢◌, ◌⊎◌}
use mathlib.Core.List.{List, List-discrete}
use lib.ListN.{length}
use native.Mathlib.Decide.{ℕ_discrete}
use native.Mathlib.Omega.{arith}
use Rattle.model.specs.Nodes.{at, keys, key_at}
use Rattle.model.specs.Arena.{State, encode, list_of}
use Rattle.model.specs.Walks.{is_found, place_of, key_walk}
use Rattle.model.specs.Passes.{decode, nodes, Passes}
use Rattle.model.specs.Calls.{Call, search, read, insert_key, remove_key, remove_index, truncate, clear, split_at, split_key, append_list, middle, level}
use Rattle.model.specs.Calls.{Answer, accepted, refused, beyond, refusal, answer_to, result_of, Room, Promise, SetUpPromise}
use Rattle.model.specs.Refusals.{Applies, no_list, same_lists, too_high, none_free, not_empty_at, not_empty_key}
use Rattle.model.specs.Refusals.{read_past, remove_past, split_past, no_middle, no_key, over}
use Rattle.model.specs.Claims.{FoundFirst, Appended, LevelledAt, Untouched}
use Rattle.model.specs.Stays.{Stands, Gone}
use Rattle.model.specs.Slices.{broken, whole}
use Rattle.model.specs.Order.{On, Accepted, Sequences, Order}
use Rattle.model.proofs.BenchReadings.{table}
use Rattle.model.proofs.CallAnswers.{declined-number, answer-refused, search-answers, read-answers, remove-answers, removal-answers, middle-answers}
use Rattle.model.proofs.Bounded.{is-walks, within-rank, within-gap, within-levelled}
use Rattle.model.proofs.ByKey.{key_precursor, key_found, key_missing, key_place-all}
use Rattle.model.proofs.Clauses.{passes-clauses, clauses_pass}
use Rattle.model.proofs.EveryCall.{sound-after, passes-after, set_up_passes}
use Rattle.model.proofs.Frame.{refused-keeps, frame}
use Rattle.model.proofs.Keeps.{sorted-list}
use Rattle.model.proofs.KeysAfter.{keys-inserted, keys_removed, keys_removed_key, keys_truncated, keys_cleared, keys-split, keys-split_key, keys-appended}
use Rattle.model.proofs.KeysAfter.{keys_after, keys-levelled}
use Rattle.model.proofs.Leaves.{nodes-inserted, only-insert, truncate_nothing, truncate_frees, split_nothing, append_nothing, merge_reverses, level_heights}
use Rattle.model.proofs.Refusals.{given-applies, lowest_given, accepted_clear, clear_accepted}
use Rattle.model.proofs.Remain.{nodes_remain}
use Rattle.model.proofs.Models.{model_of, same_words}
use Rattle.model.proofs.Limits.{set_up_stays, check-stays, refused-stays, search_stays, read_stays, middle_stays, other-stays}
use Rattle.model.proofs.StoredWalks.{rank_walk_stored_lem}
use Rattle.model.proofs.Slices.{decided, fits, fails, history-is, history_unique, broken_held, whole-held}
use Rattle.model.proofs.Stay.{nodes_stay}
use Rattle.model.proofs.Tests.{same, other, same?}
use Rattle.model.proofs.Unique.{either_way, call_unique, set_up_unique, check_unique}

-- ---- the number that a call answers is its refusal ----
accepted_number : (S : State) (c : Call) → (accepted S c).number ≡ 0
accepted_number S (search a k w) = refl
accepted_number S (read a i) = refl
accepted_number S (insert_key a k h) = refl
accepted_number S (remove_key a k) = refl
accepted_number S (remove_index a i) = refl
accepted_number S (truncate a n) = refl
accepted_number S (clear a) = refl
accepted_number S (split_at a b i) = refl
accepted_number S (split_key a b k) = refl
accepted_number S (append_list a b) = refl
accepted_number S (middle a) = refl
accepted_number S (level a) = refl

answer_number : (S : State) (c : Call) → (answer_to S c).number ≡ refusal S c
answer_number S c = elim (same? (refusal S c) 0) [
  | same e q ↦ rw e (accepted_number S c ∙ sym q)
  | other e q ↦ rw e (declined-number (refusal S c) c)
]

-- every row of a model is 3 or more
from_3 : {S : State} {c : Call} {n : ℕ} → Applies S c n → 3 ≤ n
from_3 (no_list p) = omega arith
from_3 (same_lists p) = omega arith
from_3 (too_high p) = omega arith
from_3 (none_free p) = omega arith
from_3 (not_empty_at p) = omega arith
from_3 (not_empty_key p) = omega arith
from_3 (read_past p) = omega arith
from_3 (remove_past p) = omega arith
from_3 (split_past p) = omega arith
from_3 (no_middle p) = omega arith
from_3 (no_key p) = omega arith
from_3 (over p) = omega arith

-- ---- words that pass, and the model that they hold ----
module _ {c : Call} {w u : List ℕ} {r : Answer} (o : On c w u r) where
  answered : r ≡ answer_to (decode w) c
  answered = (o.promise.whole o.passes).0

  number_is : r.number ≡ refusal (decode w) c
  number_is = ap (λ (x : Answer). x.number) answered ∙ answer_number (decode w) c

  after : decode u ≡ result_of (decode w) c
  after = model_of (result_of (decode w) c) (sound-after (decode w) o.passes.sound c) (o.promise.whole o.passes).1

  -- what holds of the model after the call holds of the words that it leaves
  of_after : (P : State → Type 0) → P (result_of (decode w) c) → P (decode u)
  of_after P p = subst P (sym after) p

  keys_of : (a : ℕ) {ks : List ℕ} → keys_after (decode w) c a ≡ ks → keys (nodes u a) ≡ ks
  keys_of a e = ap (λ (T : State). keys (list_of T a)) after ∙ e

module _ {c : Call} {w u : List ℕ} {r : Answer} (k : Accepted c w u r) where
  none-given : refusal (decode w) c ≡ 0
  none-given = sym (number_is k.on) ∙ k.number

-- ---- demand 1 ----
unchanged : {c : Call} {w u : List ℕ} {r : Answer} → Promise c w u r → r.number ≢ 0 → u ≡ w
unchanged {c} {w} {u} {r} p n =
    either_way (List-discrete ℕ_discrete) (Passes w)
    (λ q. (p.whole q).1 ∙ ap encode (refused-keeps (decode w) c (λ e. n (number_is (record { passes = q; promise = p }) ∙ e))) ∙ sym q.words)
    (λ b. (p.broken b).1)

set_up_unchanged : {L M C n : ℕ} {w u : List ℕ} → SetUpPromise L M C w u n → n ≢ 0 → u ≡ w
set_up_unchanged {L} {M} {C} {n} {w} {u} p ne =
    either_way (List-discrete ℕ_discrete) (Room L M C (length w)) (λ q. absurd (ne (p.right q).0)) (λ b. (p.wrong b).1)

zeros : {c : Call} {w u : List ℕ} {r : Answer} → On c w u r → r.number ≢ 0 → r.number ≢ 10 → r ≡ refused r.number
zeros {c} {w} o n m =
    let e = number_is o in
    answered o ∙ answer-refused (decode w) c (λ q. n (e ∙ q)) (λ q. m (e ∙ q)) ∙ ap refused (sym e)

at_ten : {a k allowance : ℕ} {w u : List ℕ} {r : Answer} → On (search a k allowance) w u r → r.number ≡ 10 → r ≡ beyond allowance
at_ten {a} {k} {allowance} {w} o e =
    let q : refusal (decode w) (search a k allowance) ≡ 10 = sym (number_is o) ∙ e in
    answered o ∙ (rw q refl)

row_1 : {c : Call} {w u : List ℕ} {r : Answer} → Promise c w u r → (¬ Passes w → r.number ≡ 1) × (r.number ≡ 1 → ¬ Passes w)
row_1 {c} {w} {u} {r} p = (
  λ n. ap (λ (x : Answer). x.number) (p.broken n).0,
  λ e q.
      let g : refusal (decode w) c ≡ 1 = sym (number_is (record { passes = q; promise = p })) ∙ e in
      omega (arith, from_3 (given-applies (decode w) q.sound c (omega arith))),
)

-- ---- demand 2, on the keys ----
found_first : {a k allowance : ℕ} {w u : List ℕ} {r : Answer} → Accepted (search a k allowance) w u r → r.found ≡ 1 → FoundFirst k (nodes w a) r.place
found_first {a} {k} {allowance} {w} {u} {r} h e =
    let S = decode w in
    let s = sorted-list S h.on.passes.sound a in
    let g = answered h.on ∙ search-answers S h.on.passes.sound a k allowance (none-given h) in
    let place : r.place ≡ place_of (key_walk S.levels k (nodes w a)) = ap (λ (x : Answer). x.place) g ∙ sym (key_place-all S.levels k (nodes w a) s) in
    subst (FoundFirst k (nodes w a)) (sym place)
    (key_found S.levels k (nodes w a) s (is_one (is_found (key_walk S.levels k (nodes w a))) (sym (ap (λ (x : Answer). x.found) g) ∙ e)))
  where
    is_one : (b : Bool) → ◌≡◌ {A = ℕ} (cond b 1 0) 1 → b ≡ true
    is_one true e = refl
    is_one false e = absurd (omega arith)

not_there : {a k allowance : ℕ} {w u : List ℕ} {r : Answer} → Accepted (search a k allowance) w u r → r.found ≡ 0 → (i : ℕ) → i < length (nodes w a) → key_at (nodes w a) i ≢ k
not_there {a} {k} {allowance} {w} {u} {r} h e =
    let S = decode w in
    let s = sorted-list S h.on.passes.sound a in
    let g = answered h.on ∙ search-answers S h.on.passes.sound a k allowance (none-given h) in
    key_missing S.levels k (nodes w a) s (is_zero (is_found (key_walk S.levels k (nodes w a))) (sym (ap (λ (x : Answer). x.found) g) ∙ e))
  where
    is_zero : (b : Bool) → ◌≡◌ {A = ℕ} (cond b 1 0) 0 → b ≡ false
    is_zero true e = absurd (omega arith)
    is_zero false e = refl

sequences : Sequences
sequences = record {
  found = found_first;
  missing = not_there;
  place = λ {a} {k} {allowance} {w} h.
      ap (λ (x : Answer). x.place) (answered h.on ∙ search-answers (decode w) h.on.passes.sound a k allowance (none-given h));
  reads = λ {a} {i} {w} h. ap (λ (x : Answer). x.key) (answered h.on ∙ read-answers (decode w) a i (none-given h));
  inserts = λ {a} {k} {h} {w} g.
      keys_of g.on a (keys-inserted (decode w) g.on.passes.sound a k h (none-given g));
  removes_key = λ {a} {k} {w} h. (
    ap (λ (x : Answer). x.key) (answered h.on ∙ (removal-answers (decode w) h.on.passes.sound a k (none-given h)).0),
    keys_of h.on a (keys_removed_key (decode w) h.on.passes.sound a k (none-given h)),
  );
  removes = λ {a} {i} {w} h. (
    ap (λ (x : Answer). x.key) (answered h.on ∙ remove-answers (decode w) a i (none-given h)),
    keys_of h.on a (keys_removed (decode w) h.on.passes.sound a i (none-given h)),
  );
  truncates = λ {a} {n} {w} h. keys_of h.on a (keys_truncated (decode w) h.on.passes.sound a n (none-given h));
  clears = λ {a} {w} h. keys_of h.on a (keys_cleared (decode w) h.on.passes.sound a (none-given h));
  splits = λ {a} {b} {i} {w} h.
      let g = keys-split (decode w) h.on.passes.sound a b i (none-given h) in
      (keys_of h.on a g.0, keys_of h.on b g.1);
  splits_key = λ {a} {b} {k} {w} h.
      let g = keys-split_key (decode w) h.on.passes.sound a b k (none-given h) in
      (keys_of h.on a g.0, keys_of h.on b g.1);
  appends = λ {a} {b} {w} h. of_after h.on (Appended (decode w) a b) (keys-appended (decode w) h.on.passes.sound a b (none-given h));
  middles = λ {a} {w} h. ap (λ (x : Answer). x.key) (answered h.on ∙ middle-answers (decode w) a (none-given h));
  levels = λ {a} {w} h i l. of_after h.on (λ T. LevelledAt (decode w).levels (at (nodes w a) i) (at (list_of T a) i) (suc i)) (level_heights (decode w) a (none-given h) i l);
  levels_keys = λ {a} {w} h. keys_of h.on a (keys-levelled (decode w) h.on.passes.sound a (none-given h));
}

-- ---- the whole ----
pub order : Order
order = record {
  refusing = record {
    row_1 = row_1;
    lowest = λ {c} {w} o n a f. number_is o ∙ lowest_given (decode w) o.passes.sound c n a f;
    none = λ {c} {w} o f. number_is o ∙ clear_accepted (decode w) o.passes.sound c f;
    stated = λ {c} {w} o e. accepted_clear (decode w) o.passes.sound c (sym (number_is o) ∙ e);
    zeros = zeros;
    allowance = at_ten;
    unchanged = unchanged;
    set_up_unchanged = set_up_unchanged;
  };
  sequences = sequences;
  leaving = record {
    passes = λ {c} {w} o. subst Passes (sym (o.promise.whole o.passes).1) (passes-after o.passes c);
    set_up_passes = set_up_leaves;
    clauses = λ {w}. (passes-clauses w, clauses_pass w);
    frame = λ {c} {w} o b l n. of_after o (λ T. Untouched (decode w) T b) (frame (decode w) o.passes.sound c b l n);
    stay = λ {c} {w} o y h. nodes_stay y (decode w) c (subst (Stands y) (after o) h);
    remain = λ {c} {w} o y h. of_after o (λ T. Stands y T ⊎ Gone (decode w) c y) (nodes_remain y (decode w) c h);
  };
  rules = record {
    inserted = nodes-inserted;
    before_equals = only-insert;
    truncate_nothing = truncate_nothing;
    truncate_frees = truncate_frees;
    split_nothing = split_nothing;
    append_nothing = append_nothing;
    merge_reverses = merge_reverses;
  };
  bounding = record {
    walks = λ h. is-walks h.on.promise h.on.passes h.number;
    rank_walks = λ {w} p a t l. rank_walk_stored_lem w p a l t;
    precursors = λ {w} p a k l q. key_precursor (decode w).levels k (nodes w a) (sorted-list (decode w) p.sound a) l q;
    by_rank = λ o. within-rank o.promise o.passes;
    by_gap = λ o. within-gap o.promise o.passes;
    levelled = λ q run only o few. within-levelled q run only o.promise few;
  };
  staying = record { refusals = refused-stays; set_ups = set_up_stays; checks = check-stays; searches = search_stays; reads = read_stays; middles = middle_stays; others = other-stays };
  holding = record {
    call = call_unique;
    sets_up = set_up_unique;
    check = check_unique;
    words = same_words;
    sequence = history_unique;
    from_broken = λ n. history-is (broken _) (broken_held n);
    from_whole = λ p. history-is (whole _) (whole-held p);
  };
  bench = table;
}
  where
    set_up_leaves : {L M C : ℕ} {w u : List ℕ} → SetUpPromise L M C w u 0 → Passes u
    set_up_leaves {L} {M} {C} {w} {u} p = elim (decided L M C (length w)) [
      | fits _ q ↦ subst Passes (sym (p.right q).1) (set_up_passes q.ranges)
      | fails _ n ↦ absurd (omega (arith, (p.wrong n).0))
    ]
