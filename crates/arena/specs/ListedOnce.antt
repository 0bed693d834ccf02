-- That a list is listed is a fact: it has one proof at most, so that a type can keep it. Rests on Owners.
use Rattle.std.specs.Prelude.{ℕ, List, [], ◌∷◌}
use Rattle.std.specs.Coded.{×_prop, Unit-prop, le_prop, Coded-set, coded_list, coded_ℕ}
use Rattle.model.specs.Nodes.{Node, Above, Sorted, Low}
use Rattle.model.specs.Passes.{Each}
use Rattle.arena.specs.Owners.{Listed}

above_prop : (t : ℕ) (xs : List Node) → IsProp (Above t xs)
above_prop t [] = Unit-prop
above_prop t (y ∷ ys) = ×_prop le_prop (above_prop t ys)

sorted_prop : (xs : List Node) → IsProp (Sorted xs)
sorted_prop [] = Unit-prop
sorted_prop (y ∷ ys) = ×_prop (above_prop y.key ys) (sorted_prop ys)

low_prop : (h : ℕ) (xs : List Node) → IsProp (Low h xs)
low_prop h [] = Unit-prop
low_prop h (y ∷ ys) = ×_prop le_prop (low_prop h ys)

each_prop : {P : List Node → Type 0} → ((xs : List Node) → IsProp (P xs)) → (xss : List (List Node)) → IsProp (Each P xss)
each_prop p [] = Unit-prop
each_prop p (xs ∷ xss) = ×_prop (p xs) (each_prop p xss)

pub sorted_lists : (xss : List (List Node)) → IsProp (Each Sorted xss)
sorted_lists xss = each_prop sorted_prop xss

pub low_lists : (h : ℕ) (xss : List (List Node)) → IsProp (Each (Low h) xss)
low_lists h xss = each_prop (low_prop h) xss

pub words_set : IsSet (List ℕ)
words_set = Coded-set (coded_list coded_ℕ)

number_set : IsSet ℕ
number_set = Coded-set coded_ℕ

pub listed_prop : (w : List ℕ) (m a : ℕ) → IsProp (Listed w m a)
listed_prop w m a = hlevel (le_prop, number_set, words_set, sorted_lists, low_lists)
