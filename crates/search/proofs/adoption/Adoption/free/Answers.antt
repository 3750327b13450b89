use Rattle.std.proofs.Common.{arith, ap, ◌+◌}
use Rattle.trees.specs.Trees.{adoption_left}
use Rattle.trees.proofs.Efforts.{adoption_freed}
use Rattle.search.specs.Tables.{forest_of}
use Rattle.search.proofs.Neighbours.{met, past_last, beside_inward, inward_there}
use Rattle.search.proofs.Freeing.{freeing_after, freeing_ends}
use Rattle.search.proofs.adoption.Adoption.free.Goals as goal

pub release-requires : goal.release-requires
release-requires g c =
    let l = g.N.Network.lawful c.args.self.now.net.now in
    let (k, stands, s) = c.loop-next.invariant in
    let (beside, _) = met g.N.Network.value stands c.in-Some.ensures.steps in
    rw s.trees.size (inward_there (g.N.Network.value c.args.self.now.net.now) c.args.self.now.terminal c.args.node c.in-Some.next l (beside_inward l beside))

pub loop-next-preserved : goal.loop-next-preserved
loop-next-preserved g c =
    let (k, stands, s) = c.loop-next.invariant in
    let (beside, on) = met g.N.Network.value stands c.in-Some.ensures.steps in
    (k + 1, on, freeing_after (g.N.Network.lawful c.args.self.now.net.now) s beside c.release.ensures)

pub returns : goal.returns
returns g c =
    let n = (g.N.Network.value c.args.self.now.net.now).graph.nodes in
    let (k, stands, s) = c.loop-next.invariant in
    let (trees, survey) = freeing_ends (g.N.Network.lawful c.args.self.now.net.now) s (past_last g.N.Network.value stands c.in-None.ensures.steps) in
    record {
      trees = rw c.set_tree.ensures trees;
      survey = rw c.set_tree.ensures survey;
      left = omega (arith, adoption_freed n c.args.node (forest_of c.args.table.now) (forest_of c.loop-next.table) c.args.self.now.terminal c.requires.there s.same c.requires.mine, ap (adoption_left n) c.set_tree.ensures);
    }
