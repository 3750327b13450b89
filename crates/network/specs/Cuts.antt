-- Selections of nodes, the source's side of a cut: what each costs, which are cheapest, and the marks that follow.
use Rattle.std.specs.Prelude.{◌≡◌, ℕ, zero, suc, ◌+◌, ◌≤◌, Bool, true, false, cond, not, ◌&&◌, List, length, Some, None, Option}
use Rattle.std.specs.List.{slice_get}
use Rattle.network.specs.declared.mark.Mark.{Mark}
use Rattle.network.specs.declared.mark.Mark.TheVariants.{In, Out, Either}
use Rattle.network.specs.declared.terminal.Terminal.TheVariants.{Source, Sink}
use Rattle.network.specs.Nets.{Ends, Net}

-- the nodes that a selection holds
abbrev pub Selection : Type 0
Selection = ℕ → Bool

-- the sum of f over the numbers below n
unfoldable pub sum_below : ℕ → (ℕ → ℕ) → ℕ
sum_below zero f = 0
sum_below (suc n) f = sum_below n f + f n

-- a node inside pays its sink residual, a node outside its source residual
abbrev pub node_cost : Net → Selection → ℕ → ℕ
node_cost v X u = cond (X u) (v.terminal Sink u) (v.terminal Source u)

-- whether an arc's tail is inside and its head outside
abbrev pub leaves : Selection → Option Ends → Bool
leaves X None = false
leaves X (Some e) = X e.tail && not (X e.head)

-- an arc that leaves the selection pays its residual
abbrev pub arc_cost : Net → Selection → ℕ → ℕ
arc_cost v X a = cond (leaves X (v.graph.ends a)) (v.residual a) 0

-- every node pays, and every arc: all codes are below 32,768
abbrev pub cost : Net → Selection → ℕ
cost v X = sum_below v.graph.nodes (node_cost v X) + sum_below 32768 (arc_cost v X)

abbrev pub Cheapest : Net → Selection → Type 0
Cheapest v X = (Y : Selection) → cost v X ≤ cost v Y

-- c is what the cheapest selections cost
abbrev pub CheapestCost : Net → ℕ → Type 0
CheapestCost v c = (X : Selection) × Cheapest v X × (cost v X ≡ c)

-- in: every cheapest selection holds the node; out: none does; either: one does and another does not
abbrev pub Marked : Net → ℕ → Mark → Type 0
Marked v u In = (X : Selection) → Cheapest v X → X u ≡ true
Marked v u Out = (X : Selection) → Cheapest v X → X u ≡ false
Marked v u Either = ((X : Selection) × Cheapest v X × (X u ≡ true)) × ((Y : Selection) × Cheapest v Y × (Y u ≡ false))

-- a mark for each node, true of the cheapest selections
abbrev pub AllMarked : Net → List Mark → Type 0
AllMarked v marks = (length marks ≡ v.graph.nodes) × ((u : ℕ) (m : Mark) → slice_get marks u ≡ Some m → Marked v u m)
