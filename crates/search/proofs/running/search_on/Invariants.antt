use Rattle.network.specs.Cuts.{cost}
use Rattle.search.specs.Trails.{everything}
use Rattle.search.specs.Tables.{forest_of}
use Rattle.search.proofs.Turns.{Turn}
use Rattle.search.proofs.running.search_on.Given as goal

abbrev pub invariant-loop-bridge : goal.invariant-loop-bridge
invariant-loop-bridge g l = Turn (g.N.Network.value l.initial.net) l.initial.trail l.initial.log (g.N.Network.value l.net) (forest_of l.table) l.stage l.trail l.log × g.N.Network.keeps l.initial.net l.net

abbrev pub decreases-loop-bridge : goal.decreases-loop-bridge
decreases-loop-bridge g l = cost (g.N.Network.value l.net) everything
