use Rattle.trees.proofs.Remembering.{remembering_marked, remembering_on}
use Rattle.search.proofs.adoption.Adoption.remember.Goals as goal

pub returns-in_default : goal.returns-in_default
returns-in_default g c =
    let noted = remembering_marked c.loop.invariant c.set_stage.ensures in
    record { survey = noted.survey; trees = noted.only }

pub loop-preserved : goal.loop-preserved
loop-preserved g c = remembering_on c.in-Along.arc (g.N.Network.lawful c.args.self.now.net.now) c.loop.invariant c.set_stage.ensures (cc)
