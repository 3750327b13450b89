use Rattle.network.proofs.Marking.{marked_cheapest}
use Rattle.network.proofs.theorems.marks_tell_cheapest_selections.Goals as goal

pub returns : goal.returns
returns c = marked_cheapest
