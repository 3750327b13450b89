-- What a selection costs in a network whose codes are few.
use Rattle.std.proofs.Common.{◌≡◌, ℕ, ◌+◌, ◌≤◌, None, refl, arith}
use Rattle.network.specs.Nets.{Net, Lawful}
use Rattle.network.specs.Cuts.{Selection, sum_below, node_cost, arc_cost, cost}
use Rattle.network.proofs.Sums.{sum_past}

-- v keeps the laws, and no arc has a code from k on
pub record FewCodes (v : Net) (k : ℕ) : Type 0 where
  pub lawful : Lawful v
  pub few : k ≤ 32768
  pub none : (a : ℕ) → k ≤ a → v.graph.ends a ≡ None

-- the cost of a selection, as far as codes go
abbrev pub cost_below : Net → ℕ → Selection → ℕ
cost_below v k X = sum_below v.graph.nodes (node_cost v X) + sum_below k (arc_cost v X)

pub cost_few : (v : Net) (k : ℕ) (X : Selection) → FewCodes v k → cost v X ≡ cost_below v k X
cost_few v k X few = omega (arith, sum_past 32768 k (arc_cost v X) few.few (λ a past. rw (few.none a past) refl))
