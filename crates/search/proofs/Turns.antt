-- One turn of the run: growth, a path, adoption.
use Rattle.std.proofs.Common.{◌≡◌, ℕ, ◌+◌, ◌<◌, ◌≤◌, List, [], ◌∷◌, ◌++◌, length, ap, ◌∙◌, arith}
use Rattle.network.specs.Nets.{Graph, Net, Lawful}
use Rattle.network.specs.Cuts.{cost}
use Rattle.network.specs.Sides.{Separate}
use Rattle.network.proofs.Carrying.{path_lowers, some_amount}
use Rattle.trees.specs.declared.lane.Lane.TheVariants.{Waiting, Orphans}
use Rattle.trees.specs.Forests.{Forest}
use Rattle.trees.specs.Rings.{Empty}
use Rattle.trees.specs.Trees.{Trees, tree_nodes}
use Rattle.trees.specs.Surveys.{restaged, StagesBelow}
use Rattle.trees.specs.Searches.{Bridges, Grows}
use Rattle.trees.specs.Climbs.{Settled}
use Rattle.trees.proofs.Changes.{restage_trees}
use Rattle.trees.proofs.Bridges.{bridge_path}
use Rattle.trees.proofs.Ending.{separate}
use Rattle.search.specs.declared.report.Log.{Log}
use Rattle.search.specs.Trails.{SomeFurther, everything, Bounded, Steps, PauseDue}
use Rattle.search.proofs.Logs.{logged_more}

-- before each turn: the trees stand, every stage is before this one, and the log tells the paths so far
pub record Turn (v₀ : Net) (trail₀ : List ℕ) (log₀ : Log) (v : Net) (f : Forest) (stage : ℕ) (trail : List ℕ) (log : Log) : Type 0 where
  pub settled : Settled v f
  pub stages : StagesBelow f stage
  pub words : log.words ≤ length trail
  pub bounded : Bounded v log
  pub steps : Steps v₀ v trail₀ trail log₀ log
  pub nodes : v.graph.nodes ≡ v₀.graph.nodes

-- growth makes no orphans
pub grown_settled : {v : Net} {f f' : Forest} → Settled v f → Grows f f' → Trees v f' → Settled v f'
grown_settled s g h = record { trees = h; no_orphans = λ u there. rw g.orphans (s.no_orphans u (omega arith)) }

-- forgotten stages leave the trees as they stand
pub restaged_settled : {v : Net} {f f' : Forest} → f' ≡ restaged f f'.stage → Trees v f → Empty f Orphans → Settled v f'
restaged_settled {v = v} {f = f} {f' = f'} is h none = rw is (record { trees = restage_trees v f f'.stage h; no_orphans = none })

-- a bridge is a path that is left
pub bridge_pauses : {v : Net} {f : Forest} {a : ℕ} (trail : List ℕ) (log : Log) → Lawful v → Settled v f → Bridges v f a → length trail < log.words + (v.graph.nodes + 2) → PauseDue v trail log
bridge_pauses trail log l s (e, b) short = (bridge_path _ _ _ e l s.trees s.no_orphans b, short)

-- trees that cannot grow hold what is reached
pub ended : {v : Net} {f : Forest} → Lawful v → Settled v f → Empty f Waiting → Separate v (tree_nodes f)
ended l s asleep = separate _ _ l s.trees asleep s.no_orphans

-- the path of this turn
pub steps_more : {v₀ v w : Net} {trail₀ trail after : List ℕ} {log₀ log more : Log} → Steps v₀ v trail₀ trail log₀ log → SomeFurther v w trail after log more → Steps v₀ w trail₀ after log₀ more
steps_more steps (p, further) u before h =
    let (ps, logged) = steps u before h in
    (ps ++ p ∷ [], logged_more logged further)

pub bounded_more : {v w : Net} {trail after : List ℕ} {log more : Log} → Lawful v → Bounded v log → SomeFurther v w trail after log more → Bounded w more
bounded_more {v = v} l b (p, further) =
    let lower = (path_lowers v p l further.augmenting).costs everything in
    let is = ap (λ (x : Net). cost x everything) further.value in
    let paths = ap (λ (x : Log). x.paths) further.log in
    let gains = ap (λ (x : Log). x.gain) further.log in
    record {
      few = omega (arith, b.few, paths, gains, some_amount v p further.augmenting);
      small = omega (arith, b.small, lower, is, gains);
    }

pub nodes_more : {v w : Net} {trail after : List ℕ} {log more : Log} → Lawful v → SomeFurther v w trail after log more → w.graph.nodes ≡ v.graph.nodes
nodes_more {v = v} l (p, further) = ap (λ (x : Net). x.graph.nodes) further.value ∙ ap (λ (g : Graph). g.nodes) (path_lowers v p l further.augmenting).graph

-- each path lowers what can still be gained
pub cost_falls : {v w : Net} {trail after : List ℕ} {log more : Log} → Lawful v → SomeFurther v w trail after log more → cost w everything < cost v everything
cost_falls {v = v} l (p, further) =
    omega (arith, (path_lowers v p l further.augmenting).costs everything, some_amount v p further.augmenting, ap (λ (x : Net). cost x everything) further.value)

pub words_more : {v w : Net} {trail after : List ℕ} {log more : Log} → SomeFurther v w trail after log more → length after ≡ length trail → more.words ≤ length after
words_more (p, further) long = omega (arith, further.fits)
