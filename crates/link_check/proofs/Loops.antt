-- Tests of each number of a range: what the answer of `all` says, and that of a loop. Rests on specs/EachFrom and arena's Deciding.
use Prim.Native.Nat.{ℕ, ◌+◌, ◌-◌, ◌≤◌, ◌<◌}
use mathlib.Core.Path.{◌≡◌, refl, subst}
use mathlib.Core.Bool.{Bool, true, false}
use mathlib.Core.List.{List}
use lib.ListN.{length}
use native.Mathlib.Omega.{arith}
use denote.Param.Members.{Mut}
use Rattle.std.specs.Bool.{MatchBool}
use Rattle.std.specs.Fn.{Called}
use Rattle.std.specs.Iterator.{YieldsThen}
use Rattle.std.specs.List.{range_with_len, FoldsTo, AllWithin, HoldsAt}
use Rattle.std.specs.Option.{MatchOption}
use Rattle.std.specs.Prelude.{Option}
use Rattle.std.specs.declared.ops.Range.{Range}
use Rattle.std.proofs.iter.Yields.{nat_range_steps}
use Rattle.std.proofs.lemmas.Iterator.{YieldsList-from_range, cases_from_all}
use Rattle.std.proofs.lemmas.List.FromFn.{length-range_with_len, get_or-range_with_len}
use Rattle.arena.specs.Decides.{Decides}
use Rattle.arena.proofs.Deciding.{yes, no, say_yes, say_no}
use Rattle.link_check.specs.EachFrom.{EachFrom}

module _ (lo hi : ℕ) (P : ℕ → Type 0) where
  abbrev range : List ℕ
  range = range_with_len lo (hi - lo)

  each-decided : (r : Bool) → MatchBool r (AllWithin P range 0 (length range)) ((k : ℕ) × (k < length range) × HoldsAt (λ x. P x → ⊥) range k)
      → Decides r (EachFrom lo hi P)
  unfolding EachFrom
  each-decided true a = say_yes (λ j k l.
      let i : j - lo < hi - lo = omega arith in
      let e : lo + (j - lo) ≡ j = omega arith in
      subst P e (subst P (get_or-range_with_len lo (hi - lo) (j - lo) 0 i) (a (j - lo) 0 (omega arith) (omega (arith, length-range_with_len lo (hi - lo))))))
  each-decided false a = say_no (λ f.
      let k : ℕ = a.0 in
      let i : k < hi - lo = omega (arith, a.1, length-range_with_len lo (hi - lo)) in
      let n : P (lo + k) → ⊥ = subst (λ (x : ℕ). P x → ⊥) (get_or-range_with_len lo (hi - lo) k 0 i) (a.2 0) in
      n (f (lo + k) (omega arith) (omega arith)))

  -- a range whose `all` asks P of each number, by a test that leaves the closure as it was
  pub all_decided : {F : Type 0} {g : Mut F (ℕ × Unit {0}) Bool} {u : Range ℕ} {f : F} {r : Bool}
      → (xs : List ℕ) × (o : Option ℕ) × (j : F) × YieldsThen nat_range_steps (record { start = lo; end = hi }) xs o u
      × FoldsTo (λ p x q. Called g p (x, tt) true q) f xs j
      × MatchOption o (r ≡ true) (λ x. (r ≡ false) × ((h : F) × Called g j (x, tt) false h))
      → ((x : ℕ) (b : Bool) (q : F) → Called g f (x, tt) b q → (q ≡ f) × Decides b (P x)) → Decides r (EachFrom lo hi P)
  all_decided {u = u} {f = f} {r = r} a h = each-decided r (
      cases_from_all u f r P (λ x. P x → ⊥) a (YieldsList-from_range lo hi (hi - lo) refl refl)
      (λ x q k. let t = h x true q k in (t.0, yes t.1 refl)) (λ x q k. no (h x false q k).1 refl))

-- P of each number from lo on, below k, where a loop stands
pub record Upto (lo k : ℕ) (P : ℕ → Type 0) : Type 0 where
  pub each : (j : ℕ) → lo ≤ j → j < k → P j

-- a no ends it, and the end of the range
module _ {lo k : ℕ} {P : ℕ → Type 0} (u : Upto lo k P) where
  pub upto_no : {hi : ℕ} {b : Bool} → lo ≤ k → k < hi → Decides b (P k) → b ≡ false → Decides false (EachFrom lo hi P)
  unfolding EachFrom
  upto_no l m h e = say_no (λ f. no h e (f k l m))

  pub upto_end : {hi : ℕ} → hi ≤ k → Decides true (EachFrom lo hi P)
  unfolding EachFrom
  upto_end l = say_yes (λ j p q. u.each j p (omega arith))
