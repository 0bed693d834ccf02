-- `free_node::free_node` meets its contract: after l turns the links below l are absent, and behind the height they all are.
use native.Mathlib.Omega.{arith}
use Rattle.free_node.proofs.NodeForm.{one_more, freed}
use Rattle.free_node.proofs.free_node.Goals as goal

pub loop-l-preserved : goal.loop-l-preserved
loop-l-preserved c = one_more c.requires c.loop-l.invariant (omega (arith, c.requires.low)) c.put_link.ensures

pub returns : goal.returns
returns c =
    freed c.requires c.loop-l.invariant
    (omega arith) _
    c.put.ensures c.put-2.ensures c.put-3.ensures
