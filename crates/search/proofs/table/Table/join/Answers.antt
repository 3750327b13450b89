use Rattle.std.proofs.Common.{true, ap, ◌∙◌}
use Rattle.trees.specs.declared.lane.Lane.TheVariants.{Waiting}
use Rattle.trees.specs.Forests.{Forest, with_parent, with_queued}
use Rattle.search.proofs.table.Table.join.Goals as goal

pub returns : goal.returns
returns c = c.put.ensures ∙ ap (λ (f : Forest). with_queued f Waiting c.args.node true) c.set_parent.ensures ∙ ap (λ (f : Forest). with_queued (with_parent f c.args.node c.args.parent) Waiting c.args.node true) c.set_tree.ensures
