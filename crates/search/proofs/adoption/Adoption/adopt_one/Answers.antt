use Rattle.std.proofs.Common.{ap, ◌∙◌, arith}
use Rattle.trees.specs.Forests.{Forest}
use Rattle.trees.specs.Trees.{adoption_left}
use Rattle.trees.proofs.Adopting.{Adopted, adopted}
use Rattle.trees.proofs.Changes.{restage_trees}
use Rattle.search.specs.Tables.{forest_of}
use Rattle.search.proofs.Neighbours.{few_numbers}
use Rattle.search.proofs.adoption.Adoption.adopt_one.Given as given
use Rattle.search.proofs.adoption.Adoption.adopt_one.Goals as goal

pub hanging-requires : goal.hanging-requires
hanging-requires g c =
    let ((e, b, from), _) = c.in-Some.ensures in
    let (arc, node) = few_numbers (g.N.Network.value c.args.self.now.net.now).graph c.args.self.now.terminal c.in-Some.parent.inward e (g.N.Network.lawful c.args.self.now.net.now).graph b.ends in
    record { arc = arc; node = rw (← from) node }

-- what holds once the node hangs from the parent
hung : (g : given.Over) (c : goal.After-remember-arg-1 g) → Adopted (g.N.Network.value c.args.self.now.net.now) (forest_of c.set_parent.new.self) c.args.self.now.stage c.args.self.now.terminal c.args.node
hung g c =
    let r = c.requires in
    adopted (g.N.Network.lawful c.args.self.now.net.now) r.survey (record { trees = r.trees; mine = r.mine; alone = r.alone }) c.in-Some.ensures (rw c.hanging.ensures at c.set_parent.ensures)

pub remember-requires : goal.remember-requires
remember-requires g c =
    let h = hung g c in
    record { survey = h.survey; there = c.requires.there; mine = ap (λ (f : Forest). f.tree c.args.node) c.set_parent.ensures ∙ c.requires.mine; anchored = h.anchored }

pub returns-in-Some-clause-trees : goal.returns-in-Some-clause-trees
returns-in-Some-clause-trees g c = rw c.remember.ensures.trees (restage_trees _ _ _ (hung g c.before).trees)

pub returns-in-Some-clause-left : goal.returns-in-Some-clause-left
returns-in-Some-clause-left g c =
    let n = (g.N.Network.value c.args.self.now.net.now).graph.nodes in
    omega (arith, ap (adoption_left n) c.remember.ensures.trees, ap (adoption_left n) c.set_parent.ensures)

pub returns-in-None-clause-survey : goal.returns-in-None-clause-survey
returns-in-None-clause-survey g c = c.free.ensures.survey c.args.self.now.stage c.requires.survey
