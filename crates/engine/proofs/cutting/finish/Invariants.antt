use Rattle.network.specs.Cuts.{cost}
use Rattle.search.specs.Runs.{Beyond}
use Rattle.search.specs.Trails.{everything}
use Rattle.engine.specs.Gains.{Gained}
use Rattle.engine.proofs.cutting.finish.Given as goal

-- what every selection costs falls with each run that pauses
abbrev pub decreases-loop-gain : goal.decreases-loop-gain
decreases-loop-gain g l = cost (g.N.Network.value l.net) everything

abbrev pub invariant-loop-gain : goal.invariant-loop-gain
invariant-loop-gain g l = Gained (g.N.Network.value l.fn.net) (g.N.Network.value l.net) l.gain × g.N.Network.keeps l.fn.net l.net × Beyond (g.N.Network.value l.fn.net).graph.nodes l.fn.marks l.marks
