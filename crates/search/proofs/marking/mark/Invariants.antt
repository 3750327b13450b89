use Rattle.search.specs.Markings.{MarkedByTree}
use Rattle.search.specs.Tables.{forest_of}
use Rattle.search.proofs.marking.mark.Given as goal

abbrev pub invariant-loop-node : goal.invariant-loop-node
invariant-loop-node l = MarkedByTree (forest_of l.table) l.node l.marks
