-- Which form a name asks for. Rests on items' way to spell a name.
use Rattle.std.specs.Prelude.{ℕ, cond, eqb, Option, Some, None}
use Rattle.items.specs.Spelled.{spelled}
use Rattle.draw.specs.declared.Form.{Form}
use Rattle.draw.specs.declared.Form.TheVariants.{Rows, Boxes}

abbrev pub form_of : ℕ → Option Form
form_of name = cond (eqb name (spelled "text")) (Some Rows) (cond (eqb name (spelled "svg")) (Some Boxes) None)
