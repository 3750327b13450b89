use Rattle.search.proofs.Neighbours.{inward_there}
use Rattle.search.proofs.adoption.Adoption.can_take.Goals as goal

pub is_in-requires : goal.is_in-requires
is_in-requires g c = rw c.requires.survey.size (inward_there (g.N.Network.value c.args.self.now.net.now) c.args.self.now.terminal c.args.node c.args.next (g.N.Network.lawful c.args.self.now.net.now) c.requires.inward)
