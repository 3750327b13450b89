use Rattle.std.proofs.Common.{ap, sym, subst, arith}
use Rattle.trees.specs.declared.lane.Lane.TheVariants.{Orphans}
use Rattle.trees.specs.Forests.{Forest}
use Rattle.trees.specs.Rings.{Empty}
use Rattle.trees.proofs.Changes.{forget_trees}
use Rattle.trees.proofs.Picking.{turn_trees, turn_survey, orphan_left}
use Rattle.search.proofs.adoption.adopt.Goals as goal

pub adopt_in-requires-clause-trees : goal.adopt_in-requires-clause-trees
adopt_in-requires-clause-trees g c = turn_trees Orphans c.in-Some.node c.loop-node.invariant.0 c.in-Some.ensures.2

pub adopt_in-requires-clause-survey : goal.adopt_in-requires-clause-survey
adopt_in-requires-clause-survey g c = turn_survey _ c.loop-node.invariant.1 c.in-Some.ensures.2

pub loop-node-smaller-in-Some-orphan_tree : goal.loop-node-smaller-in-Some-orphan_tree
loop-node-smaller-in-Some-orphan_tree g c =
    let (there, queued, is) = c.in-Some.ensures in
    omega (arith, orphan_left c.loop-node.invariant.0 there queued is)

pub loop-node-smaller : goal.loop-node-smaller
loop-node-smaller g c =
    let (there, queued, is) = c.in-Some.ensures in
    orphan_left c.loop-node.invariant.0 there queued is

pub loop-node-preserved : goal.loop-node-preserved
loop-node-preserved g c =
    let is = c.in-Some.ensures.2 in
    let (h, survey) = c.loop-node.invariant in
    (forget_trees (g.N.Network.value c.args.net.now) _ c.in-Some.node (turn_trees Orphans c.in-Some.node h is) (rw (← c.work.ensures) c.in_default-orphan_tree.ensures), turn_survey _ survey is)

pub returns-clause-adopted : goal.returns-clause-adopted
returns-clause-adopted g c = let (is, none) = c.in_default.ensures in subst (λ (f : Forest). Empty f Orphans) (sym is) none

pub returns-clause-stages : goal.returns-clause-stages
returns-clause-stages g c =
    let (is, none) = c.in_default.ensures in
    λ u. omega (arith, c.loop-node.invariant.1.bounded u, ap (λ (f : Forest). f.stage u) is)
