use Rattle.std.proofs.Common.{◌≡◌, ◌<◌, Some}
use Rattle.trees.specs.Trees.{Anchored}
use Rattle.search.specs.Tables.{forest_of}
use Rattle.search.proofs.adoption.Adoption.is_anchored.Given as goal

abbrev pub invariant-loop : goal.invariant-loop
invariant-loop g l =
    let v = g.N.Network.value l.self.net.now in
    let f = forest_of l.table in
    (l.at < v.graph.nodes) × (f.tree l.at ≡ Some l.self.terminal) × (Anchored v.graph f.parent l.self.terminal l.at → Anchored v.graph f.parent l.self.terminal l.node)
