use Rattle.trees.specs.Plantings.{ApartBelow}
use Rattle.search.specs.Trails.{SomeLogged}
use Rattle.search.proofs.starting.start.Given as goal

abbrev pub invariant-loop-node : goal.invariant-loop-node
invariant-loop-node g l = SomeLogged (g.N.Network.value l.initial.net) (g.N.Network.value l.net) l.initial.trail l.trail l.log × ApartBelow (g.N.Network.value l.net) l.node × g.N.Network.keeps l.initial.net l.net
