-- The climb that remembers all nodes on its way: what holds at each of them.
use Rattle.std.proofs.Common.{◌≡◌, ℕ, ◌<◌, Some, ap}
use Rattle.network.specs.declared.terminal.Terminal.{Terminal}
use Rattle.network.specs.Nets.{Net, Lawful}
use Rattle.trees.specs.declared.work.Parent.TheVariants.{Along}
use Rattle.trees.specs.Forests.{Forest, with_stage}
use Rattle.trees.specs.Trees.{Anchored}
use Rattle.trees.specs.Surveys.{Survey, restaged}
use Rattle.trees.proofs.Anchors.{survey_stage}
use Rattle.trees.proofs.Stepping.{step_up}

-- only stages have changed since f₀
pub record Noted (v : Net) (stage : ℕ) (f₀ f : Forest) : Type 0 where
  pub survey : Survey v f stage
  pub only : f ≡ restaged f₀ f.stage

pub record Remembering (v : Net) (t : Terminal) (stage : ℕ) (f₀ f : Forest) (u : ℕ) : Type 0 where
  pub noted : Noted v stage f₀ f
  pub there : u < v.graph.nodes
  pub mine : f.tree u ≡ Some t
  pub anchored : Anchored v.graph f.parent t u

pub remembering_marked : {v : Net} {t : Terminal} {stage : ℕ} {f₀ f f₁ : Forest} {u : ℕ} → Remembering v t stage f₀ f u → f₁ ≡ with_stage f u stage → Noted v stage f₀ f₁
remembering_marked {v = v} {t = t} {stage = stage} {f = f} {u = u} r is =
    rw is (record {
      survey = survey_stage v f stage t u r.noted.survey r.mine r.anchored;
      only = ap (λ (x : Forest). with_stage x u stage) r.noted.only;
    })

pub remembering_on : {v : Net} {t : Terminal} {stage : ℕ} {f₀ f f₁ : Forest} {u w : ℕ} (a : ℕ) → Lawful v → Remembering v t stage f₀ f u → f₁ ≡ with_stage f u stage → f.parent u ≡ Along a w → Remembering v t stage f₀ f₁ w
remembering_on a l r is at =
    let step = step_up a l r.noted.survey r.there r.mine at in
    record {
      noted = remembering_marked r is;
      there = step.there;
      mine = rw is step.mine;
      anchored = rw is (step.above r.anchored);
    }
