-- Climbs to the terminals and the paths over bridges that they make, with what is written of them.
use Rattle.std.specs.Prelude.{◌≡◌, ℕ, ◌<◌, ◌≤◌, List, [], ◌∷◌, ◌++◌, map, reverse, length, drop}
use Rattle.network.specs.declared.terminal.Terminal.{Terminal}
use Rattle.network.specs.declared.terminal.Terminal.TheVariants.{Source, Sink}
use Rattle.network.specs.Nets.{Graph, Net}
use Rattle.network.specs.Paths.{last_node, on_the_way, Smallest, Augmenting}
use Rattle.trees.specs.declared.lane.Lane.TheVariants.{Orphans}
use Rattle.trees.specs.declared.work.Parent.{Parent}
use Rattle.trees.specs.declared.work.Parent.TheVariants.{Root}
use Rattle.trees.specs.Forests.{Forest}
use Rattle.trees.specs.Rings.{Empty}
use Rattle.trees.specs.Trees.{Climb, Trees, AllOnward}

-- two search trees in which every node of a tree hangs from its terminal
pub record Settled (v : Net) (f : Forest) : Type 0 where
  pub trees : Trees v f
  pub no_orphans : Empty f Orphans

-- every climb from u has at most m arcs
abbrev pub ClimbsFit : Graph → (ℕ → Parent) → Terminal → ℕ → ℕ → Type 0
ClimbsFit g parent t u m = (w : ℕ) (arcs : List ℕ) → Climb g parent t u w arcs → length arcs ≤ m

-- every climb from u has fewer than m arcs
abbrev pub ClimbsLeaveOne : Graph → (ℕ → Parent) → Terminal → ℕ → ℕ → Type 0
ClimbsLeaveOne g parent t u m = (w : ℕ) (arcs : List ℕ) → Climb g parent t u w arcs → length arcs < m

-- xs written over the beginning of a list
abbrev pub Written : List ℕ → List ℕ → List ℕ → Type 0
Written before after xs = after ≡ xs ++ drop (length xs) before

-- the climb from u to the terminal, told by the number of its arcs and the terminal's child where it ends
pub record Climbed (g : Graph) (parent : ℕ → Parent) (t : Terminal) (u : ℕ) (told : ℕ × ℕ) (arcs : List ℕ) : Type 0 where
  pub count : told.0 ≡ length arcs
  pub climb : Climb g parent t u told.1 arcs
  pub top : parent told.1 ≡ Root

-- the arcs of such a climb are written, the lowest first
abbrev pub ClimbWritten : Graph → (ℕ → Parent) → Terminal → ℕ → List ℕ → List ℕ → ℕ × ℕ → Type 0
ClimbWritten g parent t u before after told = (arcs : List ℕ) × Climbed g parent t u told arcs × Written before after arcs

-- the arcs of such a climb are written, the highest first
abbrev pub DescentWritten : Graph → (ℕ → Parent) → Terminal → ℕ → List ℕ → List ℕ → ℕ × ℕ → Type 0
DescentWritten g parent t u before after told = (arcs : List ℕ) × Climbed g parent t u told arcs × Written before after (reverse arcs)

-- the residuals from the source to the first node, of the arcs, and from the last node to the sink
abbrev pub residuals : Net → ℕ → List ℕ → ℕ → List ℕ
residuals v first arcs last = v.terminal Source first ∷ (map v.residual arcs ++ v.terminal Sink last ∷ [])

-- arcs that lead onward from a first node to a last: with the smallest residual on the way they are an augmenting path
pub record Passable (v : Net) (f : Forest) (first last : ℕ) (arcs : List ℕ) : Type 0 where
  pub augmenting : (x : ℕ) → Smallest x (on_the_way v first arcs) → Augmenting v (record { amount = x; first = first; arcs = arcs })
  pub onward : AllOnward v.graph f arcs
  pub to : last_node v.graph first arcs ≡ last
