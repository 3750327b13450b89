use Rattle.trees.proofs.Planting.{Planting}
use Rattle.search.specs.Tables.{forest_of}
use Rattle.search.proofs.planting.plant.Given as goal

abbrev pub invariant-loop-node : goal.invariant-loop-node
invariant-loop-node g l = Planting (g.N.Network.value l.net) l.node (forest_of l.table)
