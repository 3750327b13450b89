use Rattle.std.proofs.Common.{arith}
use Rattle.trees.proofs.Forgetting.{forgetting_none, forgetting_more, forgetting_ends}
use Rattle.search.specs.Tables.{forest_of}
use Rattle.search.proofs.table.Table.forget_stages.Goals as goal

pub loop-node-init : goal.loop-node-init
loop-node-init c = forgetting_none (forest_of c.args.self.now)

pub loop-node-preserved : goal.loop-node-preserved
loop-node-preserved c = forgetting_more c.loop-node.invariant c.set_stage.ensures

pub returns : goal.returns
returns c = forgetting_ends c.loop-node.self.work.now (omega arith) c.loop-node.invariant
