use Rattle.std.proofs.Common.{take}
use Rattle.network.specs.Paths.{Smallest}
use Rattle.trees.specs.Climbs.{residuals}
use Rattle.search.proofs.tracing.smallest.Given as goal

abbrev pub invariant-loop-arc : goal.invariant-loop-arc
invariant-loop-arc g l = Smallest l.least (residuals (g.N.Network.value l.net) l.first (take l.arc-index l.arcs) l.last)
