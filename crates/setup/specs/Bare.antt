-- The number of set-up's answer. Rests on nothing.
use Rattle.std.specs.Prelude.{ℕ, Result, Ok, Err}
use Rattle.setup.specs.declared.WrongSizes.{WrongSizes}

-- The number of each case of the answer: "2: set-up: L, M, C or the slice length is wrong".
abbrev pub number_of : Result Unit WrongSizes → ℕ
number_of (Ok _) = 0
number_of (Err _) = 2
