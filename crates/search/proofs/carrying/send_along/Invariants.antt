use Rattle.trees.specs.Carryings.{Carries}
use Rattle.trees.proofs.Ways.{Sending}
use Rattle.search.specs.Tables.{forest_of}
use Rattle.search.proofs.carrying.send_along.Given as goal

abbrev pub invariant-loop-arc : goal.invariant-loop-arc
invariant-loop-arc g l = Sending (g.N.Network.value l.initial.net) l.arcs l.amount l.arc-index (g.N.Network.value l.net) (forest_of l.table) × Carries (forest_of l.initial.table) (forest_of l.table) × g.N.Network.keeps l.initial.net l.net
