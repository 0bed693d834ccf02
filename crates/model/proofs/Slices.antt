-- Any sequence of all calls on one slice answers and leaves what the definitions say, from any words whatever. Rests on EveryCall, Models and Unique.
use Prim.Native.Nat.{ℕ, ◌+◌, ◌*◌}
use mathlib.Core.Path.{◌≡◌, refl, sym, ap, ap₂, ◌∙◌, subst}
use mathlib.Core.Bool.{Bool, true, false, cond}
use mathlib.Core.List.{List, [], ◌∷◌}
use lib.ListN.{length}
use native.Mathlib.Omega.{arith}
use Rattle.model.specs.Arena.{State, header_words, width, encode, set_up}
use Rattle.model.specs.Calls.{Call, Answer, Room, Promise, SetUpPromise, CheckPromise}
use Rattle.model.specs.Passes.{decode, Passes}
use Rattle.model.specs.Slices.{Act, setting_up, checking, calling, Reply, number, verdict, answered, Keeps, sets_up, check, call, History, nothing, first}
use Rattle.model.specs.Slices.{Held, broken, whole, words_in, Holds, right, reply, held, after_all, after, replies, held_after}
use Rattle.model.proofs.EveryCall.{kept, set_up_sound, set_up_sizes}
use Rattle.model.proofs.Models.{passes_model, model_of}
use Rattle.model.proofs.Tests.{hit, miss, test, same, other, same?}
use Rattle.model.proofs.Unique.{call_unique, set_up_unique, check_unique}

-- ---- the sizes, decided ----
pub data Decided (L M C n : ℕ) : Type 0 where
  fits : right L M C n ≡ true → Room L M C n → Decided L M C n
  fails : right L M C n ≡ false → ¬ Room L M C n → Decided L M C n

pub decided : (L M C n : ℕ) → Decided L M C n
decided L M C n = elim (test 1 L) [
  | miss a x ↦ fails (rw a refl) (λ r. omega (arith, r.ranges.lists_least))
  | hit a p ↦ elim (test L 16) [
    | miss b x ↦ fails (rw (a, b) refl) (λ r. omega (arith, r.ranges.lists_most))
    | hit b q ↦ elim (test 1 M) [
      | miss c x ↦ fails (rw (a, b, c) refl) (λ r. omega (arith, r.ranges.levels_least))
      | hit c s ↦ elim (test M 16) [
        | miss d x ↦ fails (rw (a, b, c, d) refl) (λ r. omega (arith, r.ranges.levels_most))
        | hit d t ↦ elim (test 1 C) [
          | miss e x ↦ fails (rw (a, b, c, d, e) refl) (λ r. omega (arith, r.ranges.room_least))
          | hit e u ↦ elim (test C 65535) [
            | miss f x ↦ fails (rw (a, b, c, d, e, f) refl) (λ r. omega (arith, r.ranges.room_most))
            | hit f v ↦ elim (same? n (header_words + (L + C) * width M)) [
              | other g x ↦ fails (rw (a, b, c, d, e, f, g) refl) (λ r. x r.size)
              | same g x ↦
                  fits (rw (a, b, c, d, e, f, g) refl)
                  (record {
                    ranges = record {
                      lists_least = p;
                      lists_most = q;
                      levels_least = s;
                      levels_most = t;
                      room_least = u;
                      room_most = v;
                    };
                    size = x;
                  })
            ]
          ]
        ]
      ]
    ]
  ]
]

-- ---- what any words hold ----
pub broken_held : {w : List ℕ} → ¬ Passes w → Holds w (broken w)
broken_held n = (refl, n)

pub whole-held : {w : List ℕ} → Passes w → Holds w (whole (decode w))
whole-held p = (p.words, p.sound, p.sizes)

pub words_held : {w : List ℕ} (h : Held) → Holds w h → w ≡ words_in h
words_held (broken v) k = k.0
words_held (whole S) k = k.0

passing : {w : List ℕ} {S : State} → Holds w (whole S) → Passes w
passing {S = S} k = passes_model S k.1 k.2 k.0

-- ---- one call ----
record Done (h : Held) (a : Act) (u : List ℕ) (r : Reply) : Type 0 where
  told : r ≡ reply h a
  left : Holds u (held h a)

set_up_held : (h : Held) (L M C : ℕ) → held h (setting_up L M C) ≡ cond (right L M C (length (words_in h))) (whole (set_up L M C)) h
set_up_held (broken w) L M C = refl
set_up_held (whole S) L M C = elim (decided L M C (length (encode S))) [ fits f r ↦ rw f refl | fails f r ↦ rw f refl ]

set_up_done : {L M C n : ℕ} {w u : List ℕ} (h : Held) → Holds w h → SetUpPromise L M C w u n → Done h (setting_up L M C) u (number n)
set_up_done {L} {M} {C} {n} {w} {u} h k p =
    let e = words_held h k in
    let z = set_up_held h L M C in
    elim (decided L M C (length (words_in h))) [
      | fits f r ↦
          let a = p.right (subst (λ (v : List ℕ). Room L M C (length v)) (sym e) r) in
          record { told = rw f (ap number a.0); left = rw (z, f) (a.1, set_up_sound L M C, set_up_sizes r.ranges) }
      | fails f r ↦
          let a = p.wrong (λ x. r (subst (λ (v : List ℕ). Room L M C (length v)) e x)) in
          record { told = rw f (ap number a.0); left = rw (z, f) (subst (λ (v : List ℕ). Holds v h) (sym a.1) k) }
    ]

check_done : {w : List ℕ} {b : Bool} (h : Held) → Holds w h → CheckPromise w b → Done h checking w (verdict b)
check_done {b = true} (broken v) k p = absurd (k.1 (p.sound refl))
check_done {b = false} (broken v) k p = record { told = refl; left = k }
check_done (whole S) k p = record { told = ap verdict (p.complete (passing k)); left = k }

call-done : {c : Call} {w u : List ℕ} {r : Answer} (h : Held) → Holds w h → Promise c w u r → Done h (calling c) u (answered r)
call-done (broken v) k p =
    let a = p.broken k.1 in
    record { told = ap answered a.0; left = (a.1 ∙ k.0, subst (λ (x : List ℕ). ¬ Passes x) (sym a.1) k.1) }
call-done {c} (whole S) k p =
    let a = p.whole (passing k) in
    let e = model_of S k.1 k.0 in
    let v = kept k.1 k.2 c in
    record { told = ap answered (rw e at a.0); left = (rw e at a.1, v.0, v.1) }

one-done : {a : Act} {w u : List ℕ} {r : Reply} (h : Held) → Holds w h → Keeps a w u r → Done h a u r
one-done h k (sets_up p) = set_up_done h k p
one-done h k (check p) = check_done h k p
one-done h k (call p) = call-done h k p

-- ---- any number of calls ----
pub history-is : {w u : List ℕ} {acts : List Act} {rs : List Reply} (h : Held) → Holds w h → History w acts rs u → (rs ≡ replies h acts) × Holds u (held_after h acts)
history-is h k nothing = (refl, k)
history-is h k (first {a = a} p rest) =
    let d = one-done h k p in
    let i = history-is (held h a) d.left rest in
    (ap₂ (λ (r : Reply) (rs : List Reply). r ∷ rs) d.told i.0, i.1)

-- on words that pass, what is held is the model after all
whole-after : (S : State) (acts : List Act) → held_after (whole S) acts ≡ whole (after_all S acts)
whole-after S [] = refl
whole-after S (a ∷ acts) = whole-after (after S a) acts

pub history_leaves : {w u : List ℕ} {acts : List Act} {rs : List Reply} → Passes w → History w acts rs u → Passes u × (decode u ≡ after_all (decode w) acts)
history_leaves {w} {u} {acts} p r =
    let S = after_all (decode w) acts in
    let k = subst (Holds u) (whole-after (decode w) acts) (history-is (whole (decode w)) (whole-held p) r).1 in
    (passing k, model_of S k.1 k.0)

-- from any words, calls have one history
one_unique : {a : Act} {w u v : List ℕ} {r s : Reply} → Keeps a w u r → Keeps a w v s → (r ≡ s) × (u ≡ v)
one_unique (sets_up p) (sets_up q) = let e = set_up_unique p q in (ap number e.0, e.1)
one_unique (check p) (check q) = (ap verdict (check_unique p q), refl)
one_unique (call p) (call q) = let e = call_unique p q in (ap answered e.0, e.1)

pub history_unique : {w u v : List ℕ} {acts : List Act} {rs qs : List Reply} → History w acts rs u → History w acts qs v → (rs ≡ qs) × (u ≡ v)
history_unique nothing nothing = (refl, refl)
history_unique (first p r) (first {u = u} {acts = acts} {rs = qs} q s) =
    let e = one_unique p q in
    let i = history_unique r (subst (λ (x : List ℕ). History x acts qs u) (sym e.1) s) in
    (ap₂ (λ (x : Reply) (xs : List Reply). x ∷ xs) e.0 i.0, i.1)
