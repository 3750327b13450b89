-- What adoption may rely on while it looks for parents.
use Rattle.std.specs.Prelude.{◌≡◌, ℕ, ◌<◌, ◌≤◌, Some}
use Rattle.network.specs.declared.terminal.Terminal.{Terminal}
use Rattle.network.specs.Nets.{Net}
use Rattle.trees.specs.Forests.{Forest}
use Rattle.trees.specs.Trees.{Anchored, BranchFrom, Parents}

pub record Survey (v : Net) (f : Forest) (stage : ℕ) : Type 0 where
  pub size : f.size ≡ v.graph.nodes
  pub parents : Parents v f
  -- nodes that carry the stage hang from their terminal
  pub remembered : (t : Terminal) (u : ℕ) → u < v.graph.nodes → f.tree u ≡ Some t → f.stage u ≡ stage → Anchored v.graph f.parent t u
  pub bounded : (u : ℕ) → f.stage u ≤ stage

-- f with other stages
abbrev pub restaged : Forest → (ℕ → ℕ) → Forest
restaged f stage = record { size = f.size; tree = f.tree; parent = f.parent; queued = f.queued; stage = stage }

-- along a the orphan u can hang from w, which hangs from the terminal
abbrev pub Offered : Net → Forest → Terminal → ℕ → ℕ → ℕ → Type 0
Offered v f t u a w = BranchFrom v f t u a w × Anchored v.graph f.parent t w

-- what adoption knows of one forest it knows of another
abbrev pub SurveyKept : Net → Forest → Forest → Type 0
SurveyKept v f f' = (stage : ℕ) → Survey v f stage → Survey v f' stage

-- every node was last found to hang from its terminal before this stage
abbrev pub StagesBelow : Forest → ℕ → Type 0
StagesBelow f stage = (u : ℕ) → f.stage u < stage
