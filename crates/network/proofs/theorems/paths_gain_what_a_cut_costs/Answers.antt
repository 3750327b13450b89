use Rattle.network.proofs.Duality.{finished, path_left, max_flow_min_cut, one_mark}
use Rattle.network.proofs.theorems.paths_gain_what_a_cut_costs.Goals as goal

pub returns : goal.returns
returns c = record { finished = finished; left = path_left; most = max_flow_min_cut; mark = one_mark }
