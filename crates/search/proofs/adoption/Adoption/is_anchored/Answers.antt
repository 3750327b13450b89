use Rattle.trees.proofs.Anchors.{anchored_root}
use Rattle.trees.proofs.Stepping.{step_up}
use Rattle.search.specs.Tables.{forest_of}
use Rattle.search.proofs.adoption.Adoption.is_anchored.Goals as goal

pub returns-in-Root : goal.returns-in-Root
returns-in-Root g c =
    let v = g.N.Network.value c.args.self.now.net.now in
    let f = forest_of c.args.table.now in
    λ _. c.loop.invariant.2 (anchored_root v.graph f.parent c.args.self.now.terminal c.loop.at (cc))

pub loop-preserved : goal.loop-preserved
loop-preserved g c =
    let (there, mine, on) = c.loop.invariant in
    let step = step_up c.in-Along.arc (g.N.Network.lawful c.args.self.now.net.now) c.requires.survey there mine (cc) in
    (step.there, step.mine, λ anchored. on (step.below anchored))
