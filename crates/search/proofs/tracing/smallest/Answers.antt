use Rattle.std.proofs.Common.{◌≡◌, min, get_or}
use Rattle.network.specs.declared.terminal.Terminal.TheVariants.{Source, Sink}
use Rattle.trees.proofs.Least.{least_none, least_more}
use Rattle.search.proofs.tracing.smallest.Goals as goal

pub loop-arc-init : goal.loop-arc-init
loop-arc-init g c =
    let v = g.N.Network.value c.args.net.now in
    let is : c.min-least.result ≡ min (v.terminal Source c.args.first) (v.terminal Sink c.args.last) = cc in
    rw is (least_none v c.args.first c.args.last c.args.arcs.now)

pub loop-arc-preserved : goal.loop-arc-preserved
loop-arc-preserved g c =
    let v = g.N.Network.value c.args.net.now in
    let i = c.loop-arc.arc-index in
    let is : c.min-least-in-loop-arc.result ≡ min c.loop-arc.least (v.residual (get_or c.args.arcs.now i 0)) = cc in
    rw is (least_more v c.args.first c.args.last c.args.arcs.now i c.loop-arc.least c.loop-arc-test.true c.loop-arc.invariant)
