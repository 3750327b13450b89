use Rattle.std.proofs.Common.{◌+◌}
use Rattle.search.proofs.Neighbours.{met, beside_inward}
use Rattle.search.proofs.adoption.Adoption.find_parent.Goals as goal

pub can_take-requires : goal.can_take-requires
can_take-requires g c =
    let (k, stands) = c.loop-next.invariant in
    record { survey = c.requires.survey; inward = beside_inward (g.N.Network.lawful c.args.self.now.net.now) (met g.N.Network.value stands c.in-Some.ensures.steps).0 }

pub loop-next-preserved : goal.loop-next-preserved
loop-next-preserved g c =
    let (k, stands) = c.loop-next.invariant in
    (k + 1, (met g.N.Network.value stands c.in-Some.ensures.steps).1)
