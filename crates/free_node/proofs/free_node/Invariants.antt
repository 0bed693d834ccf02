-- `free_node::free_node` meets its contract: after l turns the links below l are absent, and behind the height they all are.
use Rattle.free_node.proofs.NodeForm.{LinksGone}
use Rattle.free_node.proofs.free_node.Given as goal

abbrev pub invariant-loop-l : goal.invariant-loop-l
invariant-loop-l l = LinksGone l.m l.s.0 l.l l.initial.w l.w
