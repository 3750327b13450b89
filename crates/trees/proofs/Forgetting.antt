-- The loop that forgets all stages: what holds before each node.
use Rattle.std.proofs.Common.{◌≡◌, ℕ, ◌+◌, ◌<◌, ◌≤◌, List, refl, ap, ◌∙◌, ⊎_elim, arith}
use Rattle.std.proofs.lemmas.List.{get_or_past}
use Rattle.std.proofs.lemmas.Bool.{cases_lt}
use Rattle.std.proofs.lemmas.Bool.Decides.{nat_tests}
use Rattle.trees.specs.declared.work.Work.{Work}
use Rattle.trees.specs.Forests.{Forest, blank, forest, with_stage}
use Rattle.trees.specs.Surveys.{restaged}

-- the first k nodes carry no stage, and only stages have changed since f₀
pub record Forgetting (k : ℕ) (f₀ f : Forest) : Type 0 where
  pub forgotten : (u : ℕ) → u < k → f.stage u ≡ 0
  pub only : f ≡ restaged f₀ f.stage

pub forgetting_none : (f : Forest) → Forgetting 0 f f
forgetting_none f = record { forgotten = λ u below. absurd (omega arith); only = refl }

pub forgetting_more : {k : ℕ} {f₀ f f₁ : Forest} → Forgetting k f₀ f → f₁ ≡ with_stage f k 0 → Forgetting (k + 1) f₀ f₁
forgetting_more {k = k} r is = rw is (record {
  forgotten = λ u below. grind (arith, nat_tests, r.forgotten u);
  only = ap (λ (x : Forest). with_stage x k 0) r.only;
})

-- past the last record too there is no stage
pub forgetting_ends : {k : ℕ} {f₀ : Forest} (ws : List Work) → f₀.size ≤ k → Forgetting k f₀ (forest ws) → forest ws ≡ restaged f₀ (λ _. 0)
forgetting_ends {k = k} {f₀ = f₀} ws past r = r.only ∙ (λ i. restaged f₀ (λ u. none u i))
  where
    none : (u : ℕ) → (forest ws).stage u ≡ 0
    none u = ⊎_elim
        (λ (below : u < k). r.forgotten u below)
        (λ (beyond : k ≤ u). ap (λ (w : Work). w.stage) (get_or_past ws u blank (omega (arith, ap (λ (f : Forest). f.size) r.only))))
        (cases_lt u k)
