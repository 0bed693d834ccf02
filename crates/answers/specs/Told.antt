-- Document 01's answer for every case of the answer types. Rests on model's Calls.
use Rattle.std.specs.Prelude.{ℕ, true, false, Result, Ok, Err, ⊤}
use Rattle.model.specs.Calls.{Answer, searched, keyed, plain, refused, beyond}
use Rattle.answers.specs.declared.Refusal.{Refusal}
use Rattle.answers.specs.declared.Refusal.TheVariants.{Broken, NoList, SameList, TooHigh, Full, NotEmpty, PastEnd, NoKey}
use Rattle.answers.specs.declared.SearchError.{SearchError}
use Rattle.answers.specs.declared.SearchError.TheVariants.{Refused, Beyond}
use Rattle.key_walk.specs.declared.Searched.{Searched}
use Rattle.key_walk.specs.declared.Searched.TheVariants.{Found, Missing}

-- "Refusal numbers, in order of testing".
abbrev pub number_of : Refusal → ℕ
number_of Broken = 1
number_of NoList = 3
number_of SameList = 4
number_of TooHigh = 5
number_of Full = 6
number_of NotEmpty = 7
number_of PastEnd = 8
number_of NoKey = 9

abbrev pub search_told : Result Searched SearchError → Answer
search_told (Ok (Found i n)) = searched true i.0 n
search_told (Ok (Missing i n)) = searched false i.0 n
search_told (Err (Beyond allowance)) = beyond allowance
search_told (Err (Refused r)) = refused (number_of r)

abbrev pub key_told : Result ℕ Refusal → Answer
key_told (Ok k) = keyed k
key_told (Err r) = refused (number_of r)

-- Request K2: "twice the median", in the place of a key.
abbrev pub middle_told : Result ℕ Refusal → Answer
middle_told = key_told

abbrev pub plain_told : Result ⊤ Refusal → Answer
plain_told (Ok x) = plain
plain_told (Err r) = refused (number_of r)
