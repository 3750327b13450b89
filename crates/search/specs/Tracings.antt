-- Tracing a path: the climbs from the two ends of a bridge, and what is written of the path.
use Rattle.std.specs.Prelude.{◌≡◌, ℕ, List, length, Some, None, Option}
use Rattle.network.specs.declared.terminal.Terminal.{Terminal}
use Rattle.network.specs.Nets.{Ends, Graph, Net}
use Rattle.network.specs.Paths.{Path, last_node, Augmenting, path_words}
use Rattle.network.specs.Sides.{near}
use Rattle.trees.specs.declared.work.Parent.{Parent}
use Rattle.trees.specs.declared.work.Parent.TheVariants.{Root, Along}
use Rattle.trees.specs.Forests.{Forest}
use Rattle.trees.specs.Trees.{AllOnward}
use Rattle.trees.specs.Climbs.{Written, Passable}
use Rattle.search.specs.declared.tracing.Hop.{Hop}
use Rattle.search.specs.declared.tracing.Traced.{Traced}
use Rattle.search.specs.declared.tracing.Way.{Way}

-- the arc that u hangs from and the node above it, or none where u hangs from the terminal
abbrev pub Hops : Graph → (ℕ → Parent) → Terminal → ℕ → Option Hop → Type 0
Hops g parent t u None = parent u ≡ Root
Hops g parent t u (Some h) = (parent u ≡ Along h.arc h.node) × (e : Ends) × (g.ends h.arc ≡ Some e) × (near t e ≡ h.node)

-- such arcs are written
abbrev pub WayWritten : Net → Forest → List ℕ → List ℕ → Way → Type 0
WayWritten v f before after w = (arcs : List ℕ) × (w.count ≡ length arcs) × Passable v f w.first w.last arcs × Written before after arcs

-- what is told of a path: how many arcs it has, its amount, its first and its last node
abbrev pub told_of : Graph → Path → Traced
told_of g p = record { arcs = length p.arcs; amount = p.amount; first = p.first; last = last_node g p.first p.arcs }

-- p is an augmenting path, all of whose arcs are onward; its words are written, and r tells of it
pub record Tracing (v : Net) (f : Forest) (before after : List ℕ) (r : Traced) (p : Path) : Type 0 where
  pub augmenting : Augmenting v p
  pub onward : AllOnward v.graph f p.arcs
  pub written : Written before after (path_words p)
  pub told : r ≡ told_of v.graph p

abbrev pub PathWritten : Net → Forest → List ℕ → List ℕ → Traced → Type 0
PathWritten v f before after r = (p : Path) × Tracing v f before after r p

-- the path that r tells of, where it has these arcs
abbrev pub path_of : Traced → List ℕ → Path
path_of r arcs = record { amount = r.amount; first = r.first; arcs = arcs }
