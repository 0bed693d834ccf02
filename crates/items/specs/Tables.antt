-- The items of a call script, as docs/CALLS.md lists them: a table for each count of numbers. Rests on Spelled.
use Rattle.std.specs.Prelude.{ℕ, cond, List, [], ◌∷◌, eqb, Option, Some, None}
use Prim.Native.String.{String}
use Rattle.items.specs.Spelled.{spelled}
use Rattle.items.specs.declared.Item.{Item}
use Rattle.items.specs.declared.Item.TheVariants.{
  Words,
  Check,
  Dump,
  Clear,
  Middle,
  Level,
  LinkMake,
  LinkRaise,
  LinkLower,
  New,
  Poke,
  Read,
  RemoveKey,
  RemoveAt,
  Truncate,
  Append,
  Setup,
  Search,
  Insert,
  SplitAt,
  SplitKey,
}

abbrev pub bare : List (String × Item)
bare = ("check", Check) ∷ ("dump", Dump) ∷ []

abbrev pub on_one : List (String × Item)
on_one = ("clear", Clear) ∷ ("middle", Middle) ∷ ("level", Level) ∷ ("linkmake", LinkMake) ∷ ("linkraise", LinkRaise) ∷ ("linklower", LinkLower) ∷ []

abbrev pub on_two : List (String × Item)
on_two = ("new", New) ∷ ("poke", Poke) ∷ ("read", Read) ∷ ("removekey", RemoveKey) ∷ ("removeat", RemoveAt) ∷ ("truncate", Truncate) ∷ ("append", Append) ∷ []

abbrev pub on_three : List (String × Item)
on_three = ("setup", Setup) ∷ ("search", Search) ∷ ("insert", Insert) ∷ ("splitat", SplitAt) ∷ ("splitkey", SplitKey) ∷ []

-- The item of a table that has this name.
abbrev pub named : ℕ → List (String × Item) → Option Item
named name [] = None
named name (entry ∷ rest) = cond (eqb name (spelled entry.0)) (Some entry.1) (named name rest)

-- The item of a name with so many numbers: `words` takes any but none.
unfoldable pub item_of : ℕ → ℕ → Option Item
item_of name count =
    cond (eqb name (spelled "words"))
    (cond (eqb count 0) None (Some Words))
    (cond (eqb count 0) (named name bare)
    (cond (eqb count 1) (named name on_one)
    (cond (eqb count 2) (named name on_two)
    (cond (eqb count 3) (named name on_three) None))))
