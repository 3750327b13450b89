use Rattle.std.proofs.Common.{◌-◌, length}
use Rattle.search.proofs.Climbing.{Rising}
use Rattle.search.specs.Tables.{forest_of}
use Rattle.search.proofs.tracing.Tracer.climb.Given as goal

abbrev pub invariant-loop-hop : goal.invariant-loop-hop
invariant-loop-hop g l = Rising (g.N.Network.value l.self.net.now) (forest_of l.self.table.now) l.terminal l.node l.initial.arcs l.arcs l.steps l.at

abbrev pub decreases-loop-hop : goal.decreases-loop-hop
decreases-loop-hop g l = length l.arcs - l.steps
