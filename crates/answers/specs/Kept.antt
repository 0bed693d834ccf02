-- What a call promises of an arena that passes: the second half of model's Promise. Rests on model's Calls.
use Rattle.std.specs.Prelude.{ℕ, ◌≡◌, List}
use Rattle.model.specs.Arena.{encode}
use Rattle.model.specs.Passes.{decode}
use Rattle.model.specs.Calls.{Call, Answer, answer_to, result_of}

pub record Kept (c : Call) (before after : List ℕ) (r : Answer) : Type 0 where
  pub answered : r ≡ answer_to (decode before) c
  pub left : after ≡ encode (result_of (decode before) c)
