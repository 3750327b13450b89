use Rattle.search.proofs.Climbing.{hung_from}
use Rattle.search.proofs.tracing.Tracer.step_up.Goals as goal

pub returns-in-Along : goal.returns-in-Along
returns-in-Along g c = hung_from c.in-Along.arc c.requires.trees c.requires.there c.requires.tree (cc)
