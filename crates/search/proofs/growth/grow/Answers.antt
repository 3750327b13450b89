use Rattle.std.proofs.Common.{sym, ap, subst, arith}
use Rattle.trees.specs.declared.lane.Lane.TheVariants.{Waiting}
use Rattle.trees.specs.Forests.{Forest}
use Rattle.trees.specs.Rings.{Empty}
use Rattle.trees.specs.Trees.{Trees}
use Rattle.trees.proofs.Picking.{turn_trees, turn_left, waiting_grows, grows_on, bridge_kept, free_sleeps}
use Rattle.search.specs.Tables.{forest_of}
use Rattle.search.proofs.growth.grow.Goals as goal

pub scan-requires-clause-trees : goal.scan-requires-clause-trees
scan-requires-clause-trees g c = turn_trees Waiting c.in-Some.node c.loop-node.invariant.0 c.in-Some.ensures.2

pub returns-in-Some-scan : goal.returns-in-Some-scan
returns-in-Some-scan g c =
    let v = g.N.Network.value c.args.net.now in
    let scanned = c.in-Some-scan.ensures in
    record {
      trees = (rw c.put.ensures scanned.trees.0, bridge_kept v (forest_of c.scan.new.table) _ c.in-Some-scan.bridge (ap (λ (x : Forest). x.tree) c.put.ensures) scanned.trees.1);
      grows = grows_on (grows_on (grows_on c.loop-node.invariant.1 (waiting_grows _ _ c.in-Some.ensures.2)) scanned.grows) (waiting_grows _ _ c.put.ensures);
    }

pub loop-node-smaller-in_default-scan : goal.loop-node-smaller-in_default-scan
loop-node-smaller-in_default-scan g c =
    let (there, queued, is) = c.in-Some.ensures in
    omega (arith, turn_left c.loop-node.invariant.0 there queued is, c.in_default-scan.ensures.left)

pub loop-node-preserved-in_default-scan : goal.loop-node-preserved-in_default-scan
loop-node-preserved-in_default-scan g c = (c.in_default-scan.ensures.trees, grows_on (grows_on c.loop-node.invariant.1 (waiting_grows _ _ c.in-Some.ensures.2)) c.in_default-scan.ensures.grows)

pub loop-node-smaller : goal.loop-node-smaller
loop-node-smaller g c =
    let (there, queued, is) = c.in-Some.ensures in
    turn_left c.loop-node.invariant.0 there queued is

pub loop-node-preserved : goal.loop-node-preserved
loop-node-preserved g c =
    let is = c.in-Some.ensures.2 in
    (free_sleeps (g.N.Network.value c.args.net.now) _ c.in-Some.node (turn_trees Waiting c.in-Some.node c.loop-node.invariant.0 is) (cc), grows_on c.loop-node.invariant.1 (waiting_grows _ _ is))

pub returns : goal.returns
returns g c =
    let (is, none) = c.in_default.ensures in
    record {
      trees = subst (λ (f : Forest). Trees (g.N.Network.value c.args.net.now) f × Empty f Waiting) (sym is) (c.loop-node.invariant.0, none);
      grows = rw is c.loop-node.invariant.1;
    }
