use Rattle.network.proofs.Pigeons.{few_words}
use Rattle.network.proofs.Carrying.{path_lowers, paths_lower, few_paths}
use Rattle.network.proofs.Trails.{one_reading}
use Rattle.network.proofs.theorems.paths_lower_every_cost.Goals as goal

pub returns : goal.returns
returns c = record { one = path_lowers; many = paths_lower; few = few_paths; words = few_words; reading = one_reading }
