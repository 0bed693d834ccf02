-- What the end of a line does to the words and the desk, by what the line says and what the insertion answers. Rests on Capping and model's Slices.
use Prim.Native.Nat.{ℕ, suc, ◌≤◌}
use mathlib.Core.Path.{◌≡◌, refl, sym, ap, subst}
use mathlib.Core.Bool.{Bool, true, false, cond, false≢true}
use mathlib.Core.List.{List, [], ◌∷◌}
use borrow.Author.Tests.{ne_eqb}
use native.Mathlib.Omega.{arith}
use Rattle.model.specs.Calls.{Call, Answer, insert_key, refused, Promise, CheckPromise}
use Rattle.model.specs.Passes.{Passes}
use Rattle.model.proofs.EveryCall.{passes-after}
use Rattle.model.specs.Slices.{Reply, answered, call, nothing, first, Holds, reply, held}
use Rattle.model.proofs.Slices.{history-is}
use Rattle.answers.specs.declared.Refusal.{Refusal}
use Rattle.answers.specs.Told.{number_of, plain_told}
use Rattle.answers.proofs.Numbers.{below_ten}
use Rattle.shift_line.specs.declared.Reading.{Reading}
use Rattle.std.specs.Prelude.{Some, None, Result, Ok, Err, is_ok, ⊤}
use Rattle.shift_line.specs.Reads.{blank, entry_of}
use Rattle.shift_feed.specs.declared.Desk.{Desk}
use Rattle.shift_feed.specs.Shifts.{inserting, accepted}
use Rattle.shift_feed.specs.Feeds.{end_line, capped, midway, desk_of, Goes}
use Rattle.shift_feed.proofs.Capping.{capped-within}

abbrev head_or : Reply → List Reply → Reply
head_or r [] = r
head_or r (x ∷ xs) = x

module _ {r : Reading} {desk : Desk} {w u : List ℕ} (says : entry_of desk.line ≡ Some r) where
  -- the insertion answers r: the line is skipped exactly if it is refused
  told : {n : ℕ} (b : Bool) → accepted (answered (refused n)) ≡ b → Promise (insert_key r.list r.key 0) w u (refused n)
      → Goes end_line desk w u (record { line = blank; skipped = capped (cond b desk.skipped (suc desk.skipped)) })
  told {n} b e p = record {
    goes = λ h holds.
        let (x, y) = history-is h holds (first (call p) nothing) in
        let z : answered (refused n) ≡ reply h (inserting r.list r.key) = ap (head_or (answered (refused n))) x in
        let v : end_line (midway h desk) ≡ record {
          shift = record { held = held h (inserting r.list r.key); skipped = cond b desk.skipped (suc desk.skipped) };
          line = blank;
        } = rw (says, sym z, e) refl in
        (subst (Holds u) (ap (λ m. m.shift.held) (sym v)) y, ap desk_of (sym v));
  }

  pub reading-taken :
      (a : Result ⊤ Refusal)
      → is_ok a ≡ true
      → Promise (insert_key r.list r.key 0) w u (plain_told a)
      → desk.skipped ≤ 18446744073709551615
      → Goes end_line desk w u (record { line = blank; skipped = desk.skipped })
  reading-taken (Ok x) e p h =
      subst (λ n. Goes end_line desk w u (record { line = blank; skipped = n })) (capped-within _ h) (told true refl p)
  reading-taken (Err why) e p h = absurd (false≢true e)

  pub reading-refused :
      (a : Result ⊤ Refusal)
      → is_ok a ≡ false
      → Promise (insert_key r.list r.key 0) w u (plain_told a)
      → Goes end_line desk w u (record { line = blank; skipped = capped (suc desk.skipped) })
  reading-refused (Ok x) e p = absurd (false≢true (sym e))
  reading-refused (Err why) e p = told false (ne_eqb (number_of why) 0 (λ z. omega (arith, below_ten why))) p

pub unread_skipped : {desk : Desk} (w : List ℕ) → entry_of desk.line ≡ None → Goes end_line desk w w (record { line = blank; skipped = capped (suc desk.skipped) })
unread_skipped {desk} w says = record {
  goes = λ h holds.
      let v : end_line (midway h desk) ≡ record { shift = record { held = h; skipped = suc desk.skipped }; line = blank } = rw says refl in
      (subst (Holds w) (ap (λ m. m.shift.held) (sym v)) holds, ap desk_of (sym v));
}

-- what the check says of the words, it still says after a call
pub still : {c : Call} {w u : List ℕ} {r : Answer} (passes : Bool) → CheckPromise w passes → Promise c w u r → CheckPromise u passes
still {c} true check p =
    let passes = check.sound refl in
    record { sound = λ e. subst Passes (sym (p.whole passes).1) (passes-after passes c); complete = λ q. refl }
still {w = w} {u} false check p =
    subst (λ (x : List ℕ). CheckPromise x false) (sym (p.broken (λ q. false≢true (check.complete q))).1) check
