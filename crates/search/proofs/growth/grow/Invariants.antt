use Rattle.trees.specs.Trees.{Trees, growth_left}
use Rattle.trees.specs.Searches.{Grows}
use Rattle.search.specs.Tables.{forest_of}
use Rattle.search.proofs.growth.grow.Given as goal

abbrev pub invariant-loop-node : goal.invariant-loop-node
invariant-loop-node g l = Trees (g.N.Network.value l.net) (forest_of l.table) × Grows (forest_of l.initial.table) (forest_of l.table)

abbrev pub decreases-loop-node : goal.decreases-loop-node
decreases-loop-node g l = growth_left (g.N.Network.value l.net).graph.nodes (forest_of l.table)
