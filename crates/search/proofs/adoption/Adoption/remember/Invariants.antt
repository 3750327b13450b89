use Rattle.trees.proofs.Remembering.{Remembering}
use Rattle.search.specs.Tables.{forest_of}
use Rattle.search.proofs.adoption.Adoption.remember.Given as goal

abbrev pub invariant-loop : goal.invariant-loop
invariant-loop g l = Remembering (g.N.Network.value l.self.net.now) l.self.terminal l.self.stage (forest_of l.initial.table) (forest_of l.table) l.at
