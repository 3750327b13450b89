-- A node picked from a queue, and put back.
use Rattle.std.proofs.Common.{◌≡◌, ℕ, ◌<◌, Bool, true, false, None, refl, ap, ◌∙◌, arith}
use Rattle.network.specs.Nets.{Net}
use Rattle.trees.specs.declared.lane.Lane.{Lane}
use Rattle.trees.specs.declared.lane.Lane.TheVariants.{Waiting, Orphans}
use Rattle.trees.specs.Forests.{Forest, with_queued}
use Rattle.trees.specs.Trees.{Trees, growth_left, adoption_left}
use Rattle.trees.specs.Surveys.{Survey}
use Rattle.trees.specs.Searches.{TreesBut, Bridges, Grows}
use Rattle.trees.proofs.Points.{at_put_back}
use Rattle.trees.proofs.Efforts.{growth_picked, adoption_picked}
use Rattle.trees.proofs.Changes.{requeue_trees, sleep_trees}
use Rattle.trees.proofs.Anchors.{survey_queued}

-- a picked node counts as queued still
pub picked_trees : (v : Net) (f : Forest) (l : Lane) (u : ℕ) → Trees v f → TreesBut v (with_queued f l u false) l u
picked_trees v f Waiting u h = requeue_trees v f _ (at_put_back (f.queued Waiting) u) (λ _ is. is) h
picked_trees v f Orphans u h = requeue_trees v f _ (λ _ is. is) (at_put_back (f.queued Orphans) u) h

-- a free node need not wait
pub free_sleeps : (v : Net) (f : Forest) (u : ℕ) → TreesBut v f Waiting u → f.tree u ≡ None → Trees v f
free_sleeps v f u h free = sleep_trees v f u h (λ t a e in_tree is from some. cc)

-- a bridge stays one while the trees stay
pub bridge_kept : (v : Net) (f f' : Forest) (a : ℕ) → f'.tree ≡ f.tree → Bridges v f a → Bridges v f' a
bridge_kept v f f' a same (e, b) = (e, record { ends = b.ends; positive = b.positive; tail = rw same b.tail; head = rw same b.head })

pub grows_on : {f g h : Forest} → Grows f g → Grows g h → Grows f h
grows_on a b = record { size = b.size ∙ a.size; orphans = b.orphans ∙ a.orphans; stages = b.stages ∙ a.stages }

pub turn_trees : {v : Net} {f f₁ : Forest} (l : Lane) (u : ℕ) → Trees v f → f₁ ≡ with_queued f l u false → TreesBut v f₁ l u
turn_trees l u h is = rw is (picked_trees _ _ l u h)

pub turn_there : (v : Net) (f : Forest) (u : ℕ) → Trees v f → u < f.size → u < v.graph.nodes
turn_there v f u h there = omega arith

pub waiting_grows : {f f₁ : Forest} (u : ℕ) (b : Bool) → f₁ ≡ with_queued f Waiting u b → Grows f f₁
waiting_grows u b is = rw is (record { size = refl; orphans = refl; stages = refl })

pub turn_left : {v : Net} {f f₁ : Forest} {u : ℕ} → Trees v f → u < f.size → f.queued Waiting u ≡ true → f₁ ≡ with_queued f Waiting u false → growth_left v.graph.nodes f₁ < growth_left v.graph.nodes f
turn_left {v = v} {f = f} {u = u} h there queued is =
    omega (arith, growth_picked v.graph.nodes u f (turn_there v f u h there) queued, ap (λ (x : Forest). growth_left v.graph.nodes x) is)

pub orphan_left : {v : Net} {f f₁ : Forest} {u : ℕ} → Trees v f → u < f.size → f.queued Orphans u ≡ true → f₁ ≡ with_queued f Orphans u false → adoption_left v.graph.nodes f₁ < adoption_left v.graph.nodes f
orphan_left {v = v} {f = f} {u = u} h there queued is =
    omega (arith, adoption_picked v.graph.nodes u f (turn_there v f u h there) queued, ap (adoption_left v.graph.nodes) is)

pub turn_survey : {v : Net} {f f₁ : Forest} {stage : ℕ} (u : ℕ) → Survey v f stage → f₁ ≡ with_queued f Orphans u false → Survey v f₁ stage
turn_survey u s is = rw is (survey_queued _ _ _ Orphans u false s)
