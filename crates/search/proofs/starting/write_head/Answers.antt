use Rattle.search.proofs.Behind.{set_three}
use Rattle.search.proofs.starting.write_head.Goals as goal

pub returns : goal.returns
returns c = set_three c.args.words.now c.args.arcs c.args.amount c.args.first c.requires
