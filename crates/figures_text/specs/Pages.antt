-- A page is a lent slice and a place in it. Rests on Texts.
use Rattle.std.specs.Prelude.{ℕ, ◌≡◌, List, length}
use Rattle.figures_text.specs.Texts.{Put}
use Rattle.figures_text.specs.declared.Page.{Page}

-- Bytes are put where a page stands: it stands behind them then, in the same slice.
pub record Puts (bytes : List ℕ) (before after : Page) : Type 0 where
  pub put : Put before.at bytes before.out.now after.out.now after.at
  pub long : length after.out.now ≡ length before.out.now
  pub same : after.out.ghost_name ≡ before.out.ghost_name
