use Rattle.trees.proofs.Forgetting.{Forgetting}
use Rattle.search.specs.Tables.{forest_of}
use Rattle.search.proofs.table.Table.forget_stages.Given as goal

abbrev pub invariant-loop-node : goal.invariant-loop-node
invariant-loop-node l = Forgetting l.node (forest_of l.initial.self) (forest_of l.self)
