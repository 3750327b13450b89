use Rattle.std.proofs.Common.{ap, arith}
use Rattle.trees.specs.Forests.{Forest}
use Rattle.search.proofs.adoption.stage_after.Goals as goal

pub returns-then-stage-eq65535-clause-stages : goal.returns-then-stage-eq65535-clause-stages
returns-then-stage-eq65535-clause-stages c = λ u. omega (arith, ap (λ (f : Forest). f.stage u) c.forget_stages.ensures)
