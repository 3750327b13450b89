-- One step up a tree: from a node to the one that it hangs from.
use Rattle.std.proofs.Common.{◌≡◌, ℕ, ◌<◌, Some, subst}
use Rattle.network.specs.declared.terminal.Terminal.{Terminal}
use Rattle.network.specs.Nets.{Net, Lawful}
use Rattle.network.specs.Sides.{near}
use Rattle.network.proofs.Laws.{near_there}
use Rattle.trees.specs.declared.work.Parent.TheVariants.{Along}
use Rattle.trees.specs.Forests.{Forest}
use Rattle.trees.specs.Trees.{Anchored}
use Rattle.trees.specs.Surveys.{Survey}
use Rattle.trees.proofs.Anchors.{anchored_below, anchored_above}

-- the node w above u
pub record Above (v : Net) (f : Forest) (t : Terminal) (u w : ℕ) : Type 0 where
  pub there : w < v.graph.nodes
  pub mine : f.tree w ≡ Some t
  pub below : Anchored v.graph f.parent t w → Anchored v.graph f.parent t u
  pub above : Anchored v.graph f.parent t u → Anchored v.graph f.parent t w

pub step_up : {v : Net} {f : Forest} {s : ℕ} {t : Terminal} {u w : ℕ} (a : ℕ) → Lawful v → Survey v f s → u < v.graph.nodes → f.tree u ≡ Some t → f.parent u ≡ Along a w → Above v f t u w
step_up {v = v} {f = f} {t = t} {u = u} {w = w} a l h there mine at =
    let (e, b, from) = h.parents t u a w there mine at in
    let hangs : f.parent u ≡ Along a (near t e) = rw from at in
    subst (Above v f t u) from (record {
      there = near_there v.graph t a e l.graph b.ends;
      mine = b.same_tree;
      below = anchored_below v.graph f.parent t u a e hangs b.ends;
      above = anchored_above v.graph f.parent t u a w e at b.ends;
    })
