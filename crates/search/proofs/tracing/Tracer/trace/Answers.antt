use Rattle.std.proofs.Common.{◌≤◌, length, arith}
use Rattle.trees.proofs.Writing.{three_words, read_after_three}
use Rattle.trees.proofs.Crossing.{some_node, way_there}
use Rattle.search.proofs.Climbing.{traced}
use Rattle.search.specs.Tables.{forest_of}
use Rattle.search.proofs.tracing.Tracer.trace.Goals as goal

pub smallest-amount-requires : goal.smallest-amount-requires
smallest-amount-requires g c =
    let l = g.N.Network.lawful c.args.self.now.net.now in
    let (arcs, count, way, written) = c.trace_arcs-count.ensures in
    let there = way_there l way in
    let some = some_node l c.requires.bridge in
    let room : 3 ≤ length c.args.words.now = omega arith in
    record {
      first = there.first_there;
      last = there.last_there;
      arcs = rw (read_after_three c.args.words.now c.trace_arcs-count.new.arcs arcs c.trace_arcs-count.result.count room count written) there.arcs_there;
    }

pub returns : goal.returns
returns g c =
    let v = g.N.Network.value c.args.self.now.net.now in
    let l = g.N.Network.lawful c.args.self.now.net.now in
    let before = c.args.words.now in
    let w = c.trace_arcs-count.result in
    let x = c.smallest-amount.result in
    let (arcs, count, way, written) = c.trace_arcs-count.ensures in
    let some = some_node l c.requires.bridge in
    let room : 3 ≤ length before = omega arith in
    let least = rw (read_after_three before c.trace_arcs-count.new.arcs arcs w.count room count written) at c.smallest-amount.ensures in
    traced v (forest_of c.args.self.now.table.now) before _ w arcs x count way least (three_words before c.trace_arcs-count.new.arcs c.write_head.new.words arcs w.count x w.first room written c.write_head.ensures)
