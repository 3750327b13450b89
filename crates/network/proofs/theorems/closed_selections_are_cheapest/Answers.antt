use Rattle.network.proofs.Closing.{reached_side}
use Rattle.network.proofs.Extremes.{closed_is_free, cheapest_closed, extremes}
use Rattle.network.proofs.theorems.closed_selections_are_cheapest.Goals as goal

pub returns : goal.returns
returns c = record { free = closed_is_free; cheapest = cheapest_closed; reached = reached_side; extremes = extremes }
