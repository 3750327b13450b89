use Rattle.tile.proofs.Rows.{joins_neighbours}
use Rattle.tile.proofs.theorems.pairs_join_neighbours.Goals as goal

pub returns : goal.returns
returns c = joins_neighbours
