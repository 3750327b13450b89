use Rattle.std.proofs.Common.{refl}
use Rattle.trees.proofs.Tables.{forest_queued, slots_same}
use Rattle.search.proofs.table.dequeue.Goals as goal

pub returns : goal.returns
returns c = record { trees = forest_queued _ _ _ _ _ c.requires c.set.ensures; places = slots_same _ _ _ c.requires refl }
