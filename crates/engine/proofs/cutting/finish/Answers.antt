use Rattle.std.proofs.Common.{◌≡◌, ◌+◌, ◌≤◌, length, refl, arith, rules}
use Rattle.search.specs.declared.report.Outcome.TheVariants.{Finished, Paused}
use Rattle.search.specs.Runs.Runs.{none}
use Rattle.search.specs.Runs.{Lent}
use Rattle.engine.proofs.Finishing.{accepted, same_nodes, gained_more, gains_small, still_beyond, costs_less, paused_gains, concluded}
use Rattle.engine.proofs.cutting.finish.Goals as goal

pub loop-gain-init : goal.loop-gain-init
loop-gain-init g c = ((0, none (g.N.Network.lawful c.args.net.now)), g.N.Network.keeping.same _, (refl, refl))

pub unwrap-report-requires : goal.unwrap-report-requires
unwrap-report-requires g c =
    let lent : Lent = record { work = c.loop-gain.work; trail = c.loop-gain.trail; marks = c.loop-gain.marks } in
    let after : Lent = record { work = c.run.new.work; trail = c.run.new.trail; marks = c.run.new.marks } in
    let same = same_nodes (g.N.Network.value c.args.net.now) (g.N.Network.value c.loop-gain.net) c.loop-gain.gain c.loop-gain.invariant.0 in
    accepted (g.N.Network.value c.loop-gain.net) (g.N.Network.value c.run.new.self) lent after c.run.result (omega (arith, same, c.requires.records, c.loop-gain.auto.work)) (omega (arith, same, c.requires.bytes, c.loop-gain.auto.marks)) c.run.ensures.ran

pub overflow_add-gain : goal.overflow_add-gain
overflow_add-gain g c =
    let ran = rw c.unwrap-report.ensures at c.run.ensures.ran in
    omega (arith, gains_small _ _ _ _ _ _ c.unwrap-report.result (g.N.Network.lawful c.args.net.now) c.loop-gain.invariant.0 ran)

pub returns-then-eq-clause-least : goal.returns-then-eq-clause-least
returns-then-eq-clause-least g c =
    let ran = rw c.unwrap-report.ensures at c.run.ensures.ran in
    let is : c.unwrap-report.result.outcome ≡ Finished = search rules in
    (concluded _ _ _ _ _ _ c.unwrap-report.result c.loop-gain.invariant.0 ran is).0

pub returns-then-eq-clause-marks : goal.returns-then-eq-clause-marks
returns-then-eq-clause-marks g c =
    let ran = rw c.unwrap-report.ensures at c.run.ensures.ran in
    let is : c.unwrap-report.result.outcome ≡ Finished = search rules in
    (concluded _ _ _ _ _ _ c.unwrap-report.result c.loop-gain.invariant.0 ran is).1

pub returns-then-eq-clause-kept : goal.returns-then-eq-clause-kept
returns-then-eq-clause-kept g c = g.N.Network.keeping.then _ _ _ c.loop-gain.invariant.1 c.run.ensures.kept

pub loop-gain-smaller : goal.loop-gain-smaller
loop-gain-smaller g c =
    let ran = rw c.unwrap-report.ensures at c.run.ensures.ran in
    let is : c.unwrap-report.result.outcome ≡ Paused = search rules in
    let room : (g.N.Network.value c.loop-gain.net).graph.nodes + 2 ≤ length c.loop-gain.trail = omega (arith, same_nodes _ _ _ c.loop-gain.invariant.0, c.requires.words, c.loop-gain.auto.trail) in
    omega (arith, costs_less _ _ _ _ c.unwrap-report.result (g.N.Network.lawful c.loop-gain.net) ran, paused_gains _ _ _ _ c.unwrap-report.result ran is room)

pub loop-gain-preserved : goal.loop-gain-preserved
loop-gain-preserved g c =
    let ran = rw c.unwrap-report.ensures at c.run.ensures.ran in
    (gained_more _ _ _ _ _ _ c.unwrap-report.result c.loop-gain.invariant.0 ran, g.N.Network.keeping.then _ _ _ c.loop-gain.invariant.1 c.run.ensures.kept, still_beyond _ _ _ _ _ _ c.unwrap-report.result _ c.loop-gain.invariant.0 ran c.loop-gain.invariant.2)

pub returns-then-eq-clause-runs : goal.returns-then-eq-clause-runs
returns-then-eq-clause-runs g c =
    let ran = rw c.unwrap-report.ensures at c.run.ensures.ran in
    gained_more _ _ _ _ _ _ c.unwrap-report.result c.loop-gain.invariant.0 ran

pub returns-then-eq-clause-beyond : goal.returns-then-eq-clause-beyond
returns-then-eq-clause-beyond g c =
    let ran = rw c.unwrap-report.ensures at c.run.ensures.ran in
    still_beyond _ _ _ _ _ _ c.unwrap-report.result _ c.loop-gain.invariant.0 ran c.loop-gain.invariant.2
