-- What the steps of adoption answer.
use Rattle.std.specs.Prelude.{◌≡◌, ℕ, true, cond, Some, None, Option, ◌≢◌, nat_lt}
use Rattle.network.specs.declared.terminal.Terminal.{Terminal}
use Rattle.network.specs.Nets.{Ends, Net}
use Rattle.network.specs.Sides.{near, far}
use Rattle.trees.specs.declared.lane.Lane.TheVariants.{Waiting}
use Rattle.trees.specs.declared.work.Parent.TheVariants.{Orphan}
use Rattle.trees.specs.declared.work.Work.{Work}
use Rattle.trees.specs.Forests.{Forest, terminal_of, with_queued}
use Rattle.trees.specs.Trees.{is_of}
use Rattle.trees.specs.Surveys.{Offered}
use Rattle.trees.specs.Carryings.{disowned}
use Rattle.search.specs.declared.reading.Neighbour.{Neighbour}

-- the arc from a neighbour to u, as the tree of t grows, and what can be sent along it
abbrev pub Inward : Net → Terminal → ℕ → Neighbour → Type 0
Inward v t u h = (e : Ends) × (v.graph.ends h.inward ≡ Some e) × (near t e ≡ h.node) × (far t e ≡ u) × (v.residual h.inward ≡ h.inward_residual)

-- a neighbour that is found is a parent that u can take
abbrev pub Found : Net → Forest → Terminal → ℕ → Option Neighbour → Type 0
Found v f t u None = Unit {0}
Found v f t u (Some h) = Offered v f t u h.inward h.node

-- the tree of an orphan
abbrev pub OrphanOf : Work → Option Terminal → Type 0
OrphanOf w None = (t : Terminal) → terminal_of w.tree ≡ Some t → w.parent ≢ Orphan
OrphanOf w (Some t) = (terminal_of w.tree ≡ Some t) × (w.parent ≡ Orphan)

-- f where a neighbour waits, if something can be sent from it
abbrev pub woken : Neighbour → Forest → Forest
woken h f = cond (nat_lt 0 h.inward_residual) (with_queued f Waiting h.node true) f

-- f where a neighbour in the tree of t waits, if something can be sent from it, and is an orphan, if it hung from the node
abbrev pub released : Terminal → Neighbour → Forest → Forest
released t h f = cond (is_of (f.tree h.node) t) (disowned (woken h f) h.node h.outward) f
