-- Any sequence of all calls on one slice, from any words whatever: set-up, the check and the calls on an arena. Rests on Calls.
use Rattle.std.specs.Prelude.{ℕ, ◌+◌, ◌*◌, ◌≡◌, Bool, true, false, cond, List, [], ◌∷◌, leb, eqb, length}
use Rattle.model.specs.Arena.{State, header_words, width, encode, set_up}
use Rattle.model.specs.Passes.{Sound, Sizes, Passes}
use Rattle.model.specs.Calls.{Call, Answer, refused, answer_to, result_of, Promise, SetUpPromise, CheckPromise}

-- What is called, and what it answers: set-up a number, the check yes or no.
pub data Act : Type 0 where
  setting_up : ℕ → ℕ → ℕ → Act
  checking : Act
  calling : Call → Act

pub data Reply : Type 0 where
  number : ℕ → Reply
  verdict : Bool → Reply
  answered : Answer → Reply

-- Each keeps its promise of the words before and after.
pub data Keeps : Act → List ℕ → List ℕ → Reply → Type 0 where
  sets_up : {L M C n : ℕ} {w u : List ℕ} → SetUpPromise L M C w u n → Keeps (setting_up L M C) w u (number n)
  check : {w : List ℕ} {b : Bool} → CheckPromise w b → Keeps checking w w (verdict b)
  call : {c : Call} {w u : List ℕ} {r : Answer} → Promise c w u r → Keeps (calling c) w u (answered r)

pub data History : List ℕ → List Act → List Reply → List ℕ → Type 0 where
  nothing : {w : List ℕ} → History w [] [] w
  first : {w v u : List ℕ} {a : Act} {acts : List Act} {r : Reply} {rs : List Reply} → Keeps a w v r → History v acts rs u → History w (a ∷ acts) (r ∷ rs) u

-- What the slice holds: words that do not pass, or the words of a sound model of the sizes allowed.
pub data Held : Type 0 where
  broken : List ℕ → Held
  whole : State → Held

abbrev pub words_in : Held → List ℕ
words_in (broken w) = w
words_in (whole S) = encode S

abbrev pub Holds : List ℕ → Held → Type 0
Holds w (broken v) = (w ≡ v) × (¬ Passes w)
Holds w (whole S) = (w ≡ encode S) × Sound S × Sizes S

abbrev all : List Bool → Bool
all [] = true
all (b ∷ bs) = cond b (all bs) false

-- "2: set-up: L, M, C or the slice length is wrong": whether they are right, for n words.
abbrev pub right : ℕ → ℕ → ℕ → ℕ → Bool
right L M C n = all (leb 1 L ∷ leb L 16 ∷ leb 1 M ∷ leb M 16 ∷ leb 1 C ∷ leb C 65535 ∷ eqb n (header_words + (L + C) * width M) ∷ [])

-- What is answered, and what is held afterwards, by the definitions.
abbrev pub reply : Held → Act → Reply
reply h (setting_up L M C) = number (cond (right L M C (length (words_in h))) 0 2)
reply (broken w) checking = verdict false
reply (whole S) checking = verdict true
reply (broken w) (calling c) = answered (refused 1)
reply (whole S) (calling c) = answered (answer_to S c)

-- The model after a call on a model.
abbrev pub after : State → Act → State
after S (setting_up L M C) = cond (right L M C (length (encode S))) (set_up L M C) S
after S checking = S
after S (calling c) = result_of S c

abbrev pub after_all : State → List Act → State
after_all S [] = S
after_all S (a ∷ acts) = after_all (after S a) acts

abbrev pub held : Held → Act → Held
held (broken w) (setting_up L M C) = cond (right L M C (length w)) (whole (set_up L M C)) (broken w)
held (broken w) checking = broken w
held (broken w) (calling c) = broken w
held (whole S) a = whole (after S a)

abbrev pub replies : Held → List Act → List Reply
replies h [] = []
replies h (a ∷ acts) = reply h a ∷ replies (held h a) acts

abbrev pub held_after : Held → List Act → Held
held_after h [] = h
held_after h (a ∷ acts) = held_after (held h a) acts
