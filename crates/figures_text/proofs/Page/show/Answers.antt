-- `Page::show` meets its contract: a 0 alone, or the six figures, of which the fifth can pass 32 bits.
use mathlib.Core.List.{[], ◌∷◌, ◌++◌}
use borrow.Author.Tests.{ne_eqb}
use Rattle.figures_text.proofs.Pages.{puts_then}
use Rattle.figures_text.proofs.Page.show.Goals as goal

pub returns-clause-put : goal.returns-clause-put
returns-clause-put c =
    let f = c.args.f in
    let four = f.count ∷ f.smallest ∷ f.largest ∷ f.lower ∷ [] in
    let five = puts_then four (f.middle ∷ []) c.numbers.ensures.put c.number-2.ensures.put in
    rw (ne_eqb f.count 0 c.if-f-eq0.false) (puts_then (four ++ f.middle ∷ []) (f.upper ∷ []) five (rw c.from.ensures at c.number-3.ensures.put))
