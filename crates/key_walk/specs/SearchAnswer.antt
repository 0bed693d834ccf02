-- What the search answers, in document 01's numbers. Rests on model's answers.
use Rattle.std.specs.Prelude.{true, false, Result, Ok, Err}
use Rattle.model.specs.Calls.{Answer, searched, beyond}
use Rattle.key_walk.specs.declared.Searched.{Searched}
use Rattle.key_walk.specs.declared.Searched.TheVariants.{Found, Missing}
use Rattle.key_walk.specs.declared.Beyond.{Beyond}

-- Document 01's number and values of each answer: "found with index r, or missing with place r .. and the tally"; refusal 10 "returns the
-- allowance as its tally".
abbrev pub answer_of : Result Searched Beyond → Answer
answer_of (Ok (Found i n)) = searched true i.0 n
answer_of (Ok (Missing i n)) = searched false i.0 n
answer_of (Err b) = beyond b.0
