-- `setup::front_of` meets its contract: a head's record, the last free slot's, and any other free slot's.
use borrow.Author.Rules.{rules}
use Rattle.setup.proofs.NewModel.{head_form, last_form, next_form}
use Rattle.setup.proofs.front_of.Goals as goal

pub returns-then-s-l : goal.returns-then-s-l
returns-then-s-l c = search (rules, head_form)

pub returns-then-s-n : goal.returns-then-s-n
returns-then-s-n c = search (rules, last_form)

pub returns-else-s-n : goal.returns-else-s-n
returns-else-s-n c = search (rules, next_form, c.if-s-n.false)
