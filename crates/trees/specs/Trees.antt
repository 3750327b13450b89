-- The two search trees over a network: what holds of them before and after every step.
use Rattle.std.specs.Prelude.{◌≡◌, ℕ, suc, ◌+◌, ◌<◌, Bool, true, false, ◌⊎◌, List, [], ◌∷◌, Some, None, Option}
use Rattle.std.specs.List.{slice_get}
use Rattle.network.specs.declared.terminal.Terminal.{Terminal}
use Rattle.network.specs.declared.terminal.Terminal.TheVariants.{Source, Sink}
use Rattle.network.specs.Nets.{Ends, Graph, Net}
use Rattle.network.specs.Cuts.{Selection, sum_below}
use Rattle.network.specs.Sides.{near, far}
use Rattle.trees.specs.declared.lane.Lane.TheVariants.{Waiting, Orphans}
use Rattle.trees.specs.declared.work.Parent.{Parent}
use Rattle.trees.specs.declared.work.Parent.TheVariants.{Orphan, Root, Along}
use Rattle.trees.specs.Forests.{Forest}
use Rattle.trees.specs.Rings.{tally}

-- an arc of this code is there
abbrev pub There : Graph → ℕ → Type 0
There g a = (e : Ends) × (g.ends a ≡ Some e)

-- parents lead from a node of the tree of t up to another, by these arcs
pub data Climb (g : Graph) (parent : ℕ → Parent) (t : Terminal) : ℕ → ℕ → List ℕ → Type 0 where
  here : {u : ℕ} → Climb g parent t u u []
  up : {u w : ℕ} {arcs : List ℕ} (a : ℕ) (e : Ends) → parent u ≡ Along a (near t e) → g.ends a ≡ Some e → Climb g parent t (near t e) w arcs → Climb g parent t u w (a ∷ arcs)

-- parents lead from u to the terminal
abbrev pub Anchored : Graph → (ℕ → Parent) → Terminal → ℕ → Type 0
Anchored g parent t u = (w : ℕ) × (arcs : List ℕ) × Climb g parent t u w arcs × (parent w ≡ Root)

-- parents lead from u to the terminal or to an orphan
abbrev pub Hangs : Graph → (ℕ → Parent) → Terminal → ℕ → Type 0
Hangs g parent t u = (w : ℕ) × (arcs : List ℕ) × Climb g parent t u w arcs × ((parent w ≡ Root) ⊎ (parent w ≡ Orphan))

-- along a the tree of t can grow from the near end, or hold the far end
pub record Branch (v : Net) (f : Forest) (t : Terminal) (u a : ℕ) (e : Ends) : Type 0 where
  pub ends : v.graph.ends a ≡ Some e
  pub child : far t e ≡ u
  pub positive : 0 < v.residual a
  pub same_tree : f.tree (near t e) ≡ Some t

-- and it does so from w
abbrev pub BranchFrom : Net → Forest → Terminal → ℕ → ℕ → ℕ → Type 0
BranchFrom v f t u a w = (e : Ends) × Branch v f t u a e × (near t e ≡ w)

-- nodes of trees that have a parent hang from the near end of an arc that is there
abbrev pub Parents : Net → Forest → Type 0
Parents v f = (t : Terminal) (u a w : ℕ) → u < v.graph.nodes → f.tree u ≡ Some t → f.parent u ≡ Along a w → BranchFrom v f t u a w

pub record Trees (v : Net) (f : Forest) : Type 0 where
  pub size : f.size ≡ v.graph.nodes
  -- the terminal's children are the nodes with a residual at the terminal
  pub roots : (t : Terminal) (u : ℕ) → u < v.graph.nodes → 0 < v.terminal t u → (f.tree u ≡ Some t) × (f.parent u ≡ Root)
  pub rooted : (t : Terminal) (u : ℕ) → u < v.graph.nodes → f.tree u ≡ Some t → f.parent u ≡ Root → 0 < v.terminal t u
  pub parents : Parents v f
  -- there are no rings
  pub hangs : (t : Terminal) (u : ℕ) → u < v.graph.nodes → f.tree u ≡ Some t → Hangs v.graph f.parent t u
  -- where something can be sent out of a tree, the tree's end waits
  pub frontier : (t : Terminal) (a : ℕ) (e : Ends) → v.graph.ends a ≡ Some e → 0 < v.residual a → f.tree (near t e) ≡ Some t → (f.tree (far t e) ≡ Some t) ⊎ (f.queued Waiting (near t e) ≡ true)
  pub orphans : (t : Terminal) (u : ℕ) → u < v.graph.nodes → f.tree u ≡ Some t → f.parent u ≡ Orphan → f.queued Orphans u ≡ true

-- an arc from the source's tree to the sink's
pub record Bridge (v : Net) (f : Forest) (a : ℕ) (e : Ends) : Type 0 where
  pub ends : v.graph.ends a ≡ Some e
  pub positive : 0 < v.residual a
  pub tail : f.tree e.tail ≡ Some Source
  pub head : f.tree e.head ≡ Some Sink

-- an arc within a tree, or from the source's tree to the sink's
abbrev pub Onward : Forest → Ends → Type 0
Onward f e = ((t : Terminal) × (f.tree e.tail ≡ Some t) × (f.tree e.head ≡ Some t)) ⊎ ((f.tree e.tail ≡ Some Source) × (f.tree e.head ≡ Some Sink))

-- whether a tree is that of t
abbrev pub is_of : Option Terminal → Terminal → Bool
is_of None _ = false
is_of (Some Source) Source = true
is_of (Some Source) Sink = false
is_of (Some Sink) Source = false
is_of (Some Sink) Sink = true

-- the nodes of the tree of t
abbrev pub tree_nodes : Forest → Terminal → Selection
tree_nodes f t u = is_of (f.tree u) t

-- every arc of a list is onward
abbrev pub AllOnward : Graph → Forest → List ℕ → Type 0
AllOnward g f arcs = (k b : ℕ) (e : Ends) → slice_get arcs k ≡ Some b → g.ends b ≡ Some e → Onward f e

-- x for a node in no tree, y for one in a tree
abbrev pub by_tree : {A : Type 0} → Option Terminal → A → A → A
by_tree None x y = x
by_tree (Some _) x y = y

-- what growth still has to do: it falls with every node that is looked at
abbrev pub growth_left : ℕ → Forest → ℕ
growth_left n f = sum_below n (λ u. by_tree (f.tree u) 2 0) + tally n (f.queued Waiting)

-- what adoption still has to do: it falls with every orphan that is taken up
abbrev pub adoption_left : ℕ → Forest → ℕ
adoption_left n f = sum_below n (λ u. by_tree (f.tree u) 0 (suc n)) + tally n (f.queued Orphans)
