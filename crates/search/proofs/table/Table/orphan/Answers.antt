use Rattle.std.proofs.Common.{true, ap, ◌∙◌}
use Rattle.trees.specs.declared.lane.Lane.TheVariants.{Orphans}
use Rattle.trees.specs.Forests.{Forest, with_queued}
use Rattle.search.proofs.table.Table.orphan.Goals as goal

pub returns : goal.returns
returns c = c.put.ensures ∙ ap (λ (f : Forest). with_queued f Orphans c.args.node true) c.set_parent.ensures
