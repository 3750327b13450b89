-- The loop that plants the trees: what holds before each node.
use Rattle.std.proofs.Common.{◌≡◌, ℕ, ◌+◌, ◌<◌, ◌≤◌, true, false, [], Some, None, sym, refl, ◌∙◌, inl, inr, arith}
use Rattle.std.proofs.lemmas.Bool.{cases_eq}
use Rattle.std.proofs.lemmas.Bool.Decides.{nat_tests}
use Rattle.network.specs.declared.terminal.Terminal.{Terminal}
use Rattle.network.specs.declared.terminal.Terminal.TheVariants.{Source, Sink}
use Rattle.network.specs.Nets.{Net}
use Rattle.network.specs.Sides.{near}
use Rattle.trees.specs.declared.lane.Lane.TheVariants.{Waiting, Orphans}
use Rattle.trees.specs.declared.work.Parent.TheVariants.{Root}
use Rattle.trees.specs.Forests.{Forest, cleared, joined}
use Rattle.trees.specs.Trees.{Trees}
use Rattle.trees.specs.Trees.Climb.{here}
use Rattle.trees.specs.Surveys.{StagesBelow}
use Rattle.trees.specs.Plantings.{Apart, root_tree}

-- the nodes below k are planted and the others are free; those in a tree are roots and wait; no node is an orphan or carries a stage
pub record Planting (v : Net) (k : ℕ) (f : Forest) : Type 0 where
  pub size : f.size ≡ v.graph.nodes
  pub planted : (u : ℕ) → u < k → f.tree u ≡ root_tree v u
  pub free : (u : ℕ) → k ≤ u → f.tree u ≡ None
  pub roots : (t : Terminal) (u : ℕ) → f.tree u ≡ Some t → (f.parent u ≡ Root) × (f.queued Waiting u ≡ true)
  pub orphans : (u : ℕ) → f.queued Orphans u ≡ false
  pub stages : StagesBelow f 1

pub planting_none : (v : Net) → Planting v 0 (cleared v.graph.nodes)
planting_none v = record {
  size = refl;
  planted = λ u below. absurd (omega arith);
  free = λ u _. refl;
  roots = λ t u in_tree. cc;
  orphans = λ u. refl;
  stages = λ u. omega arith;
}

-- a node with no residual at a terminal stays free
pub planting_free : (v : Net) (k : ℕ) (f : Forest) → root_tree v k ≡ None → Planting v k f → Planting v (k + 1) f
planting_free v k f none p = record {
  size = p.size;
  planted = λ u below. grind (arith, cases_eq u k, p.planted u, p.free u);
  free = λ u from. p.free u (omega arith);
  roots = p.roots;
  orphans = p.orphans;
  stages = p.stages;
}

pub planting_root : (v : Net) (k : ℕ) (f : Forest) (t : Terminal) → root_tree v k ≡ Some t → Planting v k f → Planting v (k + 1) (joined f t k Root)
planting_root v k f t some p = record {
  size = p.size;
  planted = λ u below. grind (arith, nat_tests, p.planted u);
  free = λ u from. grind (arith, nat_tests, p.free u);
  roots = λ s u in_tree. (grind (arith, nat_tests, p.roots s u), grind (arith, nat_tests, p.roots s u));
  orphans = p.orphans;
  stages = p.stages;
}

-- a node is planted where it has a residual
root_here : (v : Net) (t : Terminal) (u : ℕ) → Apart v → u < v.graph.nodes → 0 < v.terminal t u → root_tree v u ≡ Some t
root_here v Source u apart there some = grind (arith, nat_tests)
root_here v Sink u apart there some =
    let none : 0 < v.terminal Source u → ⊥ = λ both. apart u there both some in
    grind (arith, nat_tests)

-- and nowhere else
root_some : (v : Net) (t : Terminal) (u : ℕ) → root_tree v u ≡ Some t → 0 < v.terminal t u
root_some v Source u is = grind (arith, nat_tests)
root_some v Sink u is = grind (arith, nat_tests)

-- every node has been looked at: the trees stand, each node in them a root
pub planting_ends : (v : Net) (k : ℕ) (f : Forest) → Apart v → v.graph.nodes ≤ k → Planting v k f → Trees v f
planting_ends v k f apart past p = record {
  size = p.size;
  roots = λ t u there some. let in_tree = p.planted u (omega arith) ∙ root_here v t u apart there some in (in_tree, (p.roots t u in_tree).0);
  rooted = λ t u there in_tree _. root_some v t u (sym (p.planted u (omega arith)) ∙ in_tree);
  parents = λ t u a w there in_tree along. cc (p.roots t u in_tree).0;
  hangs = λ t u there in_tree. (u, [], here, inl (p.roots t u in_tree).0);
  frontier = λ t a e _ _ in_tree. inr (p.roots t (near t e) in_tree).1;
  orphans = λ t u there in_tree alone. cc (p.roots t u in_tree).0;
}
