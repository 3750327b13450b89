-- An orphan and the parent it has found.
use Rattle.std.proofs.Common.{◌≡◌, ℕ, Some, refl}
use Rattle.network.specs.declared.terminal.Terminal.{Terminal}
use Rattle.network.specs.Nets.{Net, Lawful}
use Rattle.network.specs.Sides.{near}
use Rattle.trees.specs.declared.lane.Lane.TheVariants.{Orphans}
use Rattle.trees.specs.declared.work.Parent.TheVariants.{Orphan, Along}
use Rattle.trees.specs.Forests.{Forest, with_parent}
use Rattle.trees.specs.Trees.{Anchored, Trees}
use Rattle.trees.specs.Surveys.{Survey, Offered}
use Rattle.trees.specs.Searches.{TreesBut}
use Rattle.trees.proofs.Points.{at_here}
use Rattle.trees.proofs.Changes.{adopt_trees}
use Rattle.trees.proofs.Anchors.{anchored_below, anchored_adopted, survey_adopted}

-- an orphan u of the tree of t, picked from the queue
pub record PickedOrphan (v : Net) (f : Forest) (t : Terminal) (u : ℕ) : Type 0 where
  pub trees : TreesBut v f Orphans u
  pub mine : f.tree u ≡ Some t
  pub alone : f.parent u ≡ Orphan

-- u has taken a parent: it hangs from its terminal
pub record Adopted (v : Net) (f : Forest) (stage : ℕ) (t : Terminal) (u : ℕ) : Type 0 where
  pub trees : Trees v f
  pub survey : Survey v f stage
  pub anchored : Anchored v.graph f.parent t u

pub adopted : {v : Net} {f f' : Forest} {t : Terminal} {u a w stage : ℕ} → Lawful v → Survey v f stage → PickedOrphan v f t u → Offered v f t u a w → f' ≡ with_parent f u (Along a w) → Adopted v f' stage t u
adopted {v = v} {f = f} {t = t} {u = u} {a = a} {stage = stage} l s o ((e, b, from), anchored) is =
    let p = Along a (near t e) in
    let above : Anchored v.graph f.parent t (near t e) = rw from anchored in
    let taken : Adopted v (with_parent f u p) stage t u = record {
      trees = adopt_trees v f t u a e l o.trees o.alone o.mine b above;
      survey = survey_adopted v f stage t u a e s o.alone o.mine b;
      anchored = anchored_below v.graph (with_parent f u p).parent t u a e (at_here f.parent u p u refl) b.ends (anchored_adopted v.graph f.parent t u (near t e) p o.alone above);
    } in
    rw (is, ← from) taken
