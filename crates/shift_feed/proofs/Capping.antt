-- A desk that counts no further than a u64 goes on as one that counts all lines, and calls that go on one after the other. Rests on Feeds.
use Prim.Native.Nat.{ℕ, suc, ◌+◌, ◌≤◌, min}
use mathlib.Core.Path.{◌≡◌, refl, sym, ap, ◌∙◌, subst}
use mathlib.Core.Bool.{Bool, true, false, cond}
use mathlib.Core.List.{List, [], ◌∷◌}
use lib.Dec.{eqb}
use native.Mathlib.Omega.{arith}
use Rattle.model.specs.Slices.{Holds, reply, held}
use Rattle.model.proofs.Tests.{test, hit, miss}
use Rattle.shift_line.specs.declared.Part.{Part}
use Rattle.shift_line.specs.declared.Part.TheVariants.{Nothing, ListDigits, Space, KeyDigits, Spoilt}
use Rattle.std.specs.Prelude.{Option, Some, None}
use Rattle.shift_line.specs.declared.Reading.{Reading}
use Rattle.shift_line.specs.Reads.{blank, stepped, entry_of}
use Rattle.shift_feed.specs.declared.Desk.{Desk}
use Rattle.shift_feed.specs.Shifts.{Shift, inserting, accepted, taken}
use Rattle.shift_feed.specs.Feeds.{Midway, end_line, fed_byte, fed, ended_in, ended, capped, midway, desk_of, Goes}

-- ---- the cap ----
pub capped-within : (n : ℕ) → n ≤ 18446744073709551615 → capped n ≡ n
capped-within n h = elim (test n 18446744073709551615) [ hit e p ↦ rw e refl | miss e p ↦ omega arith ]

-- one line more, as saturating_add counts it
pub capped_more : (n : ℕ) → min (n + 1) 18446744073709551615 ≡ capped (suc n)
capped_more n = elim (test (suc n) 18446744073709551615) [ hit e p ↦ rw e (omega arith) | miss e p ↦ rw e (omega arith) ]

capped_again : (n : ℕ) → capped (capped n) ≡ capped n
capped_again n = elim (test n 18446744073709551615) [ hit e p ↦ rw (e, e) refl | miss e p ↦ rw e refl ]

capped-suc : (n : ℕ) → capped (suc (capped n)) ≡ capped (suc n)
capped-suc n = elim (test n 18446744073709551615) [
  | hit e p ↦ rw e refl
  | miss e p ↦ elim (test (suc n) 18446744073709551615) [ hit f q ↦ absurd (omega arith) | miss f q ↦ rw (e, f) refl ]
]

abbrev cap_shift : Shift → Shift
cap_shift s = record { held = s.held; skipped = capped s.skipped }

abbrev cap : Midway → Midway
cap s = record { shift = cap_shift s.shift; line = s.line }

-- a step that goes on from the capped count as from the whole one
abbrev pub Stable : (Midway → Midway) → Type 0
Stable to = (s : Midway) → cap (to (cap s)) ≡ cap (to s)

taken-capped : (s : Shift) (e : Option Reading) → cap_shift (taken (cap_shift s) e) ≡ cap_shift (taken s e)
taken-capped s None = ap (λ n. record { held = s.held; skipped = n }) (capped-suc s.skipped)
taken-capped s (Some r) = ap (λ n. record { held = held s.held (inserting r.list r.key); skipped = n }) (by (accepted (reply s.held (inserting r.list r.key))))
  where
    by : (b : Bool) → capped (cond b (capped s.skipped) (suc (capped s.skipped))) ≡ capped (cond b s.skipped (suc s.skipped))
    by true = capped_again s.skipped
    by false = capped-suc s.skipped

end-stable : Stable end_line
end-stable s = ap (λ (x : Shift). record { shift = x; line = blank }) (taken-capped s.shift (entry_of s.line))

step_stable : (b : ℕ) → Stable (λ s. record { shift = s.shift; line = stepped s.line b })
step_stable b s = ap (λ n. record { shift = record { held = s.shift.held; skipped = n }; line = stepped s.line b }) (capped_again s.shift.skipped)

pub byte_stable : (b : ℕ) → Stable (λ s. fed_byte s b)
byte_stable b s = by (eqb b 10)
  where
    by :
        (n : Bool)
        → cap (cond n (end_line (cap s)) (record { shift = cap_shift s.shift; line = stepped s.line b }))
        ≡ cap (cond n (end_line s) (record { shift = s.shift; line = stepped s.line b }))
    by true = end-stable s
    by false = step_stable b s

pub fed-stable : (bs : List ℕ) → Stable (λ s. fed s bs)
fed-stable [] s = ap (λ n. record { shift = record { held = s.shift.held; skipped = n }; line = s.line }) (capped_again s.shift.skipped)
fed-stable (b ∷ bs) s =
    sym (fed-stable bs (fed_byte (cap s) b))
    ∙ ap (λ (x : Midway). cap (fed x bs)) (byte_stable b s)
    ∙ fed-stable bs (fed_byte s b)

pub ended-stable : Stable ended
ended-stable s = by s.line.part
  where
    by : (p : Part) → cap (ended_in p (cap s)) ≡ cap (ended_in p s)
    by Nothing = fed-stable [] s
    by ListDigits = end-stable s
    by Space = end-stable s
    by KeyDigits = end-stable s
    by Spoilt = end-stable s

-- ---- one call after the other ----
-- from a desk that stands for a shift, a call goes on to one that stands for the shift after it
pub goes_on :
    {f : Midway → Midway} {d e : Desk} {w v : List ℕ}
    → Stable f
    → Goes f d w v e
    → (s : Midway)
    → Holds w s.shift.held
    → d ≡ desk_of s
    → Holds v (f s).shift.held × (e ≡ desk_of (f s))
goes_on {f} {d} {e} {w} {v} stable p s k x =
    let (b, y) = p.goes s.shift.held k in
    let z : cap (f (midway s.shift.held d)) ≡ cap (f s) = ap (λ (t : Desk). cap (f (midway s.shift.held t))) x ∙ stable s in
    (subst (Holds v) (ap (λ m. m.shift.held) z) b, y ∙ ap (λ m. record { line = m.line; skipped = m.shift.skipped }) z)

pub goes_then :
    {f g : Midway → Midway} {d e r : Desk} {w v u : List ℕ}
    → Stable g
    → Goes f d w v e
    → Goes g e v u r
    → Goes (λ s. g (f s)) d w u r
goes_then {f} {d = d} stable p q = record { goes = λ h k. let (a, x) = p.goes h k in goes_on stable q (f (midway h d)) a x }
