-- `arena_check::heads::lists_ok` meets its contract: each list is asked.
use Prim.Native.Nat.{◌≤◌}
use Rattle.std.proofs.Common.{rules}
use Rattle.std.proofs.lemmas.Iterator.{serves_from_Range}
use Rattle.link_check.specs.Shape.{count_in}
use Rattle.link_check.proofs.Loops.{all_decided}
use Rattle.arena_check.proofs.HeadTests.{length_fits}
use Rattle.arena_check.proofs.heads.lists_ok.Goals as goal

pub all-requires-clause-callable : goal.all-requires-clause-callable
all-requires-clause-callable c = serves_from_Range (λ x q k. search rules) (λ x l h.
    let r = c.args.records in
    let fits : count_in r.words.now r.dims x ≤ r.dims.room = length_fits _ _ _ c.requires.lists_value h in
    search rules)

pub returns : goal.returns
returns c = all_decided _ _ _ c.all.ensures.ran (λ x b q k. search rules)
