-- The walk by key, as document 01 tells it: what it leaves at each level and what the search answers ("Consequences to be proved").
-- Rests on Searching (the closed form) and Precursor (the closed form's ends on a list whose keys never fall).
use Prim.Native.Nat.{ℕ, suc, ◌<◌}
use mathlib.Core.Path.{◌≡◌, refl, sym, ap, ◌∙◌}
use mathlib.Core.Bool.{Bool, true, false}
use mathlib.Core.List.{List}
use lib.ListN.{length, drop}
use Rattle.model.specs.Closed.{key_is}
use Rattle.model.specs.Claims.{LastBelow, FoundFirst, precursor_rank}
use Rattle.model.specs.Nodes.{Node, at, smaller, smaller_keys, Sorted}
use Rattle.model.specs.Walks.{is_found, place_of, key_walk}
use Rattle.model.proofs.Precursor.{precursor_is, found-is, missing_is}
use Rattle.model.proofs.Searching.{walk_found, walk_place, precursor_stop, smaller-all}
use Rattle.model.proofs.Walk.{place_is}

module _ (M t : ℕ) (xs : List Node) (s : Sorted xs) where
  -- "for each level: the precursor is the last node of height above that level whose key is below the target, or the head, with its rank"
  pub key_precursor : (l : ℕ) → l < M → LastBelow (suc l) t xs (precursor_rank M t xs l)
  key_precursor l k = rw (precursor_stop M t xs 0 0 l k) (precursor_is M t xs s (suc l) k)

  -- "found with index r, or missing with place r, r being the number of smaller keys"
  pub key_place : place_of (key_walk M t xs) ≡ smaller t xs
  key_place = walk_place M t xs ∙ place_is M t xs s

  pub key_place-all : place_of (key_walk M t xs) ≡ smaller_keys t xs
  key_place-all = key_place ∙ smaller-all t xs s

  key_met : is_found (key_walk M t xs) ≡ key_is t (drop (smaller t xs) xs)
  key_met = walk_found M t xs ∙ ap (λ (r : ℕ). key_is t (drop r xs)) (place_is M t xs s)

  -- "Found exactly when some key equals the target, and then it is the first such."
  pub key_found : is_found (key_walk M t xs) ≡ true → FoundFirst t xs (place_of (key_walk M t xs))
  key_found e = rw key_place (found-is t xs s (sym key_met ∙ e))

  pub key_missing : is_found (key_walk M t xs) ≡ false → (i : ℕ) → i < length xs → (at xs i).key ≡ t → ⊥
  key_missing e = missing_is t xs s (sym key_met ∙ e)

  pub key_there : (i : ℕ) → i < length xs → (at xs i).key ≡ t → is_found (key_walk M t xs) ≡ true
  key_there i l q = pick (is_found (key_walk M t xs)) refl
    where
      pick : (b : Bool) → is_found (key_walk M t xs) ≡ b → is_found (key_walk M t xs) ≡ true
      pick true e = e
      pick false e = absurd (key_missing e i l q)
