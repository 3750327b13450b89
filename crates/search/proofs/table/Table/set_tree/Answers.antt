use Rattle.std.proofs.Common.{refl, ap, ◌∙◌}
use Rattle.trees.specs.Forests.{forest, with_tree}
use Rattle.trees.proofs.Tables.{forest_tree, slots_same, few_kept}
use Rattle.trees.proofs.Queueing.{sound_is}
use Rattle.search.proofs.table.Table.set_tree.Goals as goal

pub invariant_of-self-clause-kept : goal.invariant_of-self-clause-kept
invariant_of-self-clause-kept c = sound_is (forest_tree _ _ _ c.requires) (slots_same _ _ _ c.requires refl) refl c.args.self.now.kept

pub invariant_of-self-clause-few : goal.invariant_of-self-clause-few
invariant_of-self-clause-few c = few_kept _ _ _ c.args.self.now.few

pub returns : goal.returns
returns c = forest_tree _ _ _ c.requires ∙ ap (with_tree (forest c.args.self.now.work.now) c.args.node) c.of.ensures
