use Rattle.std.proofs.Common.{◌<◌, length, arith, rules}
use Rattle.trees.proofs.Climbs.{climb_stays}
use Rattle.search.proofs.Climbing.{rising_none, rising_fits, rising_more}
use Rattle.search.specs.Tables.{forest_of}
use Rattle.search.proofs.tracing.Tracer.climb.Given as given
use Rattle.search.proofs.tracing.Tracer.climb.Goals as goal

pub loop-hop-init : goal.loop-hop-init
loop-hop-init g c = rising_none (g.N.Network.value c.args.self.now.net.now) (forest_of c.args.self.now.table.now) c.args.terminal c.args.node c.args.arcs.now

pub step_up-requires : goal.step_up-requires
step_up-requires g c =
    let v = g.N.Network.value c.args.self.now.net.now in
    let (there, in_tree) = climb_stays v (forest_of c.args.self.now.table.now) c.args.terminal c.args.node c.loop-hop.at c.loop-hop.invariant.arcs (g.N.Network.lawful c.args.self.now.net.now) c.requires.trees.trees c.requires.there c.requires.tree c.loop-hop.invariant.climb in
    record { trees = c.requires.trees; there = there; tree = in_tree }

-- there is room for one arc more
room : (g : given.Over) (c : goal.In-Some g) → c.loop-hop.steps < length c.loop-hop.arcs
room g c =
    let less : c.loop-hop.steps < length c.args.arcs.now = rising_fits c.in-Some.hop c.requires.room c.in-Some.ensures c.loop-hop.invariant in
    omega arith

pub bounds-arcs-steps : goal.bounds-arcs-steps
bounds-arcs-steps g c = room g c

pub loop-hop-smaller : goal.loop-hop-smaller
loop-hop-smaller g c = let less = room g c in search rules

pub loop-hop-preserved : goal.loop-hop-preserved
loop-hop-preserved g c = rising_more c.in-Some.hop c.requires.room c.in-Some.ensures c.loop-hop.invariant
