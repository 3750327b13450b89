use Rattle.network.proofs.Extremes.{constant_apart}
use Rattle.network.proofs.theorems.a_constant_changes_no_mark.Goals as goal

pub returns : goal.returns
returns c = constant_apart
