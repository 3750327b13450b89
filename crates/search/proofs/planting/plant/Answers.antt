use Rattle.std.proofs.Common.{sym, ◌∙◌, arith}
use Rattle.trees.proofs.Planting.{planting_none, planting_free, planting_root, planting_ends}
use Rattle.search.specs.Tables.{forest_of}
use Rattle.search.proofs.planting.plant.Goals.{in-Some, in_default}
use Rattle.search.proofs.planting.plant.Goals as goal

pub loop-node-init : goal.loop-node-init
loop-node-init g c = rw c.requires.cleared (planting_none (g.N.Network.value c.args.net.now))

pub loop-node-preserved : goal.loop-node-preserved
loop-node-preserved g c =
    let v = g.N.Network.value c.args.net.now in
    let k = c.loop-node.node in
    let f = forest_of c.loop-node.table in
    elim c.match-root_tree.branch [
      | in-Some w ↦ rw (w.table-is, w.join.ensures) (planting_root v k f _ (sym c.root_tree.ensures ∙ w.in-Some.is) c.loop-node.invariant)
      | in_default w ↦ rw w.table-is (planting_free v k f (sym c.root_tree.ensures ∙ w.in_default.is) c.loop-node.invariant)
    ]

pub returns-clause-trees : goal.returns-clause-trees
returns-clause-trees g c = planting_ends (g.N.Network.value c.args.net.now) c.loop-node.node (forest_of c.loop-node.table) c.requires.apart (omega arith) c.loop-node.invariant
