use Rattle.trees.specs.Trees.{Trees, adoption_left}
use Rattle.trees.specs.Surveys.{Survey}
use Rattle.search.specs.Tables.{forest_of}
use Rattle.search.proofs.adoption.adopt.Given as goal

abbrev pub invariant-loop-node : goal.invariant-loop-node
invariant-loop-node g l = Trees (g.N.Network.value l.net) (forest_of l.table) × Survey (g.N.Network.value l.net) (forest_of l.table) l.stage

abbrev pub decreases-loop-node : goal.decreases-loop-node
decreases-loop-node g l = adoption_left (g.N.Network.value l.net).graph.nodes (forest_of l.table)
