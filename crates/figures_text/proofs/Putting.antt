-- A report's line is put piece by piece: bytes put one behind the other are put as one, and so are numbers behind spaces. Rests on Texts.
use Prim.Native.Nat.{ℕ, ◌+◌, ◌-◌, ◌≤◌, ◌<◌}
use mathlib.Core.List.{List, [], ◌∷◌, ◌++◌, append_assoc, append-nil}
use mathlib.Core.Path.{◌≡◌, refl, sym, ap, ◌∙◌}
use lib.ListN.{length, take, drop, get_or, length-append, length-take, length-drop}
use lib.Seq.{drop-drop, take-suc, take_at, drop_at, length-take-le}
use native.Mathlib.Numerals.{add-one}
use native.Mathlib.Omega.{arith}
use Rattle.figures_text.specs.Texts.{spaced, Put}

pub nothing : (at : ℕ) (a : List ℕ) → Put at [] a a at
nothing at a = record { ends = omega arith; front = sym (append-nil (take at a)); rest = refl }

-- A slice of bytes that is copied to its place.
pub copied : (a more : List ℕ) (at : ℕ) → at + length more ≤ length a
    → Put at more a (take at a ++ (more ++ drop (at + length more - at) (drop at a))) (at + length more)
copied a more at room = record { ends = refl; front = rw joined (take_at front rest end long); rest = rw joined (drop_at front rest end long) ∙ behind }
  where
    end : ℕ
    end = at + length more

    front : List ℕ
    front = take at a ++ more

    rest : List ℕ
    rest = drop (end - at) (drop at a)

    joined : take at a ++ (more ++ rest) ≡ front ++ rest
    joined = sym (append_assoc (take at a) more rest)

    long : length front ≡ end
    long = rw length-append (omega (arith, length-take-le at a (omega arith)))

    behind : rest ≡ drop end a
    behind = drop-drop (end - at) at a ∙ ap (λ n. drop n a) (omega arith)

-- The slice keeps its length.
pub kept : {at n : ℕ} {xs a b : List ℕ} → Put at xs a b n → at + length xs ≤ length a → length b ≡ length a
kept {at} {n} {xs} {a} {b} p room =
    let h = ap length p.front in
    let r = ap length p.rest in
    omega (arith, simp (length-append, length-take) at h, simp length-drop at r, p.ends)

-- xs, and then ys where it ends.
pub both : {at m n : ℕ} {xs ys a b c : List ℕ} → Put at xs a b m → Put m ys b c n → Put at (xs ++ ys) a c n
both {at} {m} {n} {xs} {ys} {a} {b} {c} p q =
    record {
      ends = rw length-append (omega arith);
      front = q.front ∙ rw (p.front, append_assoc);
      rest = q.rest ∙ behind;
    }
  where
    behind : drop n b ≡ drop n a
    behind = rw (q.ends, ← drop-drop (length ys) m b, ← drop-drop (length ys) m a, p.rest)

pub spaced-append : (xs ys : List ℕ) → spaced (xs ++ ys) ≡ spaced xs ++ spaced ys
spaced-append [] ys = refl
spaced-append (x ∷ xs) ys = rw (spaced-append xs ys, append_assoc)

-- One number more.
pub one_more : (ns : List ℕ) (i : ℕ) → i < length ns → spaced (take (i + 1) ns) ≡ spaced (take i ns) ++ spaced (get_or ns i 0 ∷ [])
one_more ns i inside = rw (add-one, take-suc ns i 0 inside) (spaced-append (take i ns) _)
