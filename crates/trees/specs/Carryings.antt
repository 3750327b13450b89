-- What the trees are while a path is carried out: who loses a parent, and what a path must be for the trees to stand.
use Rattle.std.specs.Prelude.{◌≡◌, ℕ, ◌≤◌, Bool, false, cond, List, Some, ◌==◌}
use Rattle.std.specs.List.{slice_get}
use Rattle.network.specs.Nets.{Ends, Net, Distinct}
use Rattle.network.specs.Paths.{Chain, passed}
use Rattle.trees.specs.declared.work.Parent.{Parent}
use Rattle.trees.specs.declared.work.Parent.TheVariants.{Orphan, Root, Along}
use Rattle.trees.specs.Forests.{Forest, orphaned}
use Rattle.trees.specs.Trees.{Onward, AllOnward}

-- whether a parent is the arc a
abbrev pub is_along : Parent → ℕ → Bool
is_along Orphan a = false
is_along Root a = false
is_along (Along b w) a = b == a

-- f where u, if it hangs from the arc a, has lost its parent
abbrev pub disowned : Forest → ℕ → ℕ → Forest
disowned f u a = cond (is_along (f.parent u) a) (orphaned f u) f

-- carrying a path out leaves who is in which tree, and what adoption found out
pub record Carries (before after : Forest) : Type 0 where
  pub trees : after.tree ≡ before.tree
  pub stages : after.stage ≡ before.stage

-- the arc a is there, within a tree or from the source's tree to the sink's
abbrev pub OnwardArc : Net → Forest → ℕ → Type 0
OnwardArc v f a = (e : Ends) × (v.graph.ends a ≡ Some e) × Onward f e

-- arcs along which x can be sent, one after another: a chain of onward arcs, through distinct nodes, each with room for x
pub record Way (v : Net) (f : Forest) (x : ℕ) (arcs : List ℕ) : Type 0 where
  pub first : ℕ
  pub chain : Chain v.graph first arcs
  pub distinct : Distinct (passed v.graph first arcs)
  pub room : (k b : ℕ) → slice_get arcs k ≡ Some b → x ≤ v.residual b
  pub onward : AllOnward v.graph f arcs
