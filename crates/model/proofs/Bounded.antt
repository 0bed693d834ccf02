-- Demand 3 of every search that keeps its promise, on any words that pass and with any arguments. Rests on Limits, StoredWalks and Slices.
use Prim.Native.Nat.{ℕ, suc, ◌+◌, ◌*◌, ◌^◌, ◌≤◌, ◌<◌}
use mathlib.Core.Path.{◌≡◌, sym, ap, ◌∙◌, subst}
use mathlib.Core.List.{List, ◌∷◌}
use lib.ListN.{length}
use native.Mathlib.Omega.{arith}
use Rattle.model.specs.Arena.{State, list_of}
use Rattle.model.specs.Calls.{Answer, search, level, refusal, answer_to, Promise}
use Rattle.model.specs.Gaps.{gap, comparisons, AllOnlyTruncate}
use Rattle.model.specs.Nodes.{smaller_keys}
use Rattle.model.specs.Passes.{Passes, decode, nodes}
use Rattle.model.specs.Slices.{Act, calling, Reply, History, after}
use Rattle.model.specs.StoredWalks.{key_walk_stored}
use Rattle.model.specs.Walks.{End, ended}
use Rattle.model.proofs.Allowed.{allowed}
use Rattle.model.proofs.CallAnswers.{declined-number}
use Rattle.model.proofs.Keeps.{sorted-list, low-list}
use Rattle.model.proofs.Limits.{within-rank as by_rank, within-gap as by_gap, within-levelled as by_level, IsLevelled, all-levelled}
use Rattle.model.proofs.Slices.{history_leaves}
use Rattle.model.proofs.StoredWalks.{key_walk_stored_lem}
use Rattle.model.proofs.Tests.{same, other, same?, hit, miss, test}

-- a search answers no more than the walk's comparisons: its own count, with refusal 10 an allowance below it, else 0
answers_no_more : (S : State) (a k allowance : ℕ) → (answer_to S (search a k allowance)).tally ≤ comparisons S.levels k (list_of S a)
answers_no_more S a k allowance = elim (test (suc a) (length S.lists)) [
  | miss e _ ↦ rw e (omega arith)
  | hit e _ ↦ elim (test (comparisons S.levels k (list_of S a)) allowance) [ hit f _ ↦ rw (e, f) (omega arith) | miss f l ↦ rw (e, f) (omega arith) ]
]

module _ {w u : List ℕ} {a k allowance : ℕ} {r : Answer} (p : Promise (search a k allowance) w u r) (q : Passes w) where
  -- whatever it answers, the tally is not above the walk's
  pub no_more : r.tally ≤ comparisons (decode w).levels k (nodes w a)
  no_more = omega (arith, ap (λ (x : Answer). x.tally) (p.whole q).0, answers_no_more (decode w) a k allowance)

  -- "a tally invented to fit the limit (3: it equals the walk's over the stored links)"
  pub is-walks : r.number ≡ 0 → r.tally ≡ (ended (key_walk_stored (decode w).levels w a k)).tally
  is-walks ok =
      let S = decode w in
      let e = (p.whole q).0 in
      elim (same? (refusal S (search a k allowance)) 0) [
        | same f g ↦
            ap (λ (x : Answer). x.tally) (rw f at e)
            ∙ ap (λ (x : End). (ended x).tally) (sym (key_walk_stored_lem w q a (allowed S (search a k allowance) g).0 k))
        | other f g ↦ absurd (g (sym (ap (λ (x : Answer). x.number) (rw f at e) ∙ declined-number (refusal S (search a k allowance)) (search a k allowance)) ∙ ok))
      ]

  -- "a search for a key with r smaller keys makes at most r + M + 1 comparisons"
  pub within-rank : r.tally ≤ smaller_keys k (nodes w a) + (decode w).levels + 1
  within-rank = omega (arith, no_more, by_rank (decode w).levels k (nodes w a) (sorted-list (decode w) q.sound a))

  -- with g the largest gap of the list, at most (g + 1)(M + 1)
  pub within-gap : r.tally ≤ (gap (decode w).levels (nodes w a) + 1) * ((decode w).levels + 1)
  within-gap = omega (arith, no_more, by_gap (decode w).levels k (nodes w a) (sorted-list (decode w) q.sound a) (low-list (decode w) q.sound a))

-- "Directly after a levelling of that list, or after truncations of it following one with no other change to it", with fewer than 2^(M+1) keys, at
-- most 2M + 2: any calls may come between that leave list a as it was or truncate it.
pub within-levelled : {w u v : List ℕ} {a k allowance : ℕ} {acts : List Act} {rs : List Reply} {r : Answer} → Passes w → History w (calling (level a) ∷ acts) rs u
    → AllOnlyTruncate a (after (decode w) (calling (level a))) acts → Promise (search a k allowance) u v r → length (nodes u a) < 2 ^ suc (decode u).levels
    → r.tally ≤ 2 * (decode u).levels + 2
within-levelled {w} {u} {a} {k} {acts = acts} q history only p few =
    let (passes, e) = history_leaves q history in
    let levelled = (subst (IsLevelled a) (sym e) (all-levelled (decode w) a acts only)).levelled in
    omega (arith, no_more p passes, by_level (decode u).levels k (nodes u a) (sorted-list (decode u) passes.sound a) levelled few)
