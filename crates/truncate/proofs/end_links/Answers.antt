-- `truncate::end_links` meets its contract: after l turns the links of the levels below l are those of the shortened list.
use native.Mathlib.Omega.{arith}
use Rattle.truncate.proofs.Ending.{none-ended, precursor_link, level_ended, unlinked}
use Rattle.truncate.proofs.end_links.Goals as goal

pub loop-l-init : goal.loop-l-init
loop-l-init c = λ a n p ranks q. none-ended p

pub put_link-requires : goal.put_link-requires
put_link-requires c =
    let p = c.requires.0 in
    let q = c.requires.1.before in
    precursor_link p q (c.loop-l.invariant _ _ p _ q) (omega arith)

pub loop-l-preserved : goal.loop-l-preserved
loop-l-preserved c =
    λ a n p ranks q. level_ended p q (c.loop-l.invariant a n p ranks q) (omega arith) c.put_link.ensures

pub returns : goal.returns
returns c =
    let p = c.requires.0 in
    unlinked p (c.loop-l.invariant _ _ p _ c.requires.1.before) (omega arith) (omega arith)
