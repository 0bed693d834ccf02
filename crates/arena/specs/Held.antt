-- The nodes of a list that is read. Rests on model's Passes.
use Rattle.std.specs.Prelude.{List as Of}
use Rattle.model.specs.Nodes.{Node}
use Rattle.model.specs.Passes.{nodes}
use Rattle.arena.specs.declared.lists.List.{List}

abbrev pub nodes_of : List → Of Node
nodes_of list = nodes list.words.now list.head.0
