-- What a yes or no says. Rests on nothing.
use Rattle.std.specs.Prelude.{Bool, T}

-- The answer b is yes exactly when P.
pub record Decides (b : Bool) (P : Type 0) : Type 0 where
  pub sound : T b → P
  pub complete : P → T b
