-- The loop that looks at the arcs of a node: what holds before each place.
use Rattle.std.proofs.Common.{◌≡◌, ℕ, ◌+◌, ◌<◌, ◌≤◌, true, Some, None, refl, ap, ◌∙◌, subst, arith}
use Rattle.std.proofs.lemmas.Bool.Decides.{nat_tests}
use Rattle.std.specs.List.{slice_get}
use Rattle.network.specs.declared.terminal.Terminal.{Terminal}
use Rattle.network.specs.Nets.{Ends, Net, Lawful}
use Rattle.network.specs.Sides.{far}
use Rattle.network.proofs.Laws.{far_there}
use Rattle.trees.specs.declared.lane.Lane.TheVariants.{Waiting}
use Rattle.trees.specs.declared.work.Parent.TheVariants.{Along}
use Rattle.trees.specs.Forests.{Forest, with_queued, joined}
use Rattle.trees.specs.Trees.{Trees, growth_left}
use Rattle.trees.specs.Searches.{TreesBut, Grows}
use Rattle.trees.proofs.Points.{at_here, at_twice}
use Rattle.trees.proofs.Places.{Through, through_all}
use Rattle.trees.proofs.Efforts.{growth_joined}
use Rattle.trees.proofs.Changes.{join_trees, sleep_trees, requeue_trees}
use Rattle.search.specs.declared.reading.Neighbour.{Neighbour}
use Rattle.search.specs.declared.reading.Neighbourhood.{Neighbourhood}
use Rattle.search.specs.Readings.{Beside, Stands, StepsOn}
use Rattle.search.proofs.Neighbours.{met, through_more}

-- nothing can be sent along the arc out of the tree of t
abbrev pub Inside : Net → Forest → Terminal → ℕ → Ends → Type 0
Inside v f t a e = 0 < v.residual a → f.tree (far t e) ≡ Some t

pub record Scanning (v : Net) (t : Terminal) (u k : ℕ) (before f : Forest) : Type 0 where
  pub trees : TreesBut v f Waiting u
  pub mine : f.tree u ≡ Some t
  pub grows : Grows before f
  pub left : growth_left v.graph.nodes f ≤ growth_left v.graph.nodes before
  pub seen : Through v.graph t u k (Inside v f t)

-- a neighbour has a record
pub scanning_there : {N : Type 0} (value : N → Net) {w : N} {t : Terminal} {u : ℕ} {before f : Forest} {s s' : Neighbourhood N} {h : Neighbour} → Lawful (value w) → (k : ℕ) × Stands w t u k s × Scanning (value w) t u k before f → StepsOn value s (Some h) s' → h.node < f.size
scanning_there value {w = w} {t = t} {h = h} l (k, stands, so_far) steps =
    let (b, _) = met value stands steps in
    omega (arith, b.to, so_far.trees.size, far_there (value w).graph t h.outward b.ends l.graph b.out)

-- an arc that leads nowhere new
pub scanning_more : {v : Net} {t : Terminal} {u k : ℕ} {before f : Forest} {h : Neighbour} → Lawful v → Scanning v t u k before f → Beside v t u k h → (0 < h.outward_residual → f.tree h.node ≡ Some t) → Scanning v t u (k + 1) before f
scanning_more {v = v} {t = t} {u = u} {k = k} {f = f} {h = h} l s b inside = record {
  trees = s.trees;
  mine = s.mine;
  grows = s.grows;
  left = s.left;
  seen = through_more v t u k h (Inside v f t) l b s.seen (λ some. ap f.tree b.to ∙ inside (rw (← b.sends) some));
}

-- a free node joins
scanning_joined : (v : Net) (t : Terminal) (u k : ℕ) (before f : Forest) (h : Neighbour) → Lawful v → Scanning v t u k before f → Beside v t u k h → 0 < h.outward_residual → f.tree h.node ≡ None → Scanning v t u (k + 1) before (joined f t h.node (Along h.outward u))
scanning_joined v t u k before f h l s b some free =
    let a = h.outward in
    let w = h.node in
    let p = Along a u in
    let f' = joined f t w p in
    let there : w < v.graph.nodes = omega (arith, b.to, far_there v.graph t a b.ends l.graph b.out) in
    let kept : (x : ℕ) (y : Terminal) → f.tree x ≡ Some y → f'.tree x ≡ Some y = λ x y in_tree. grind (arith, nat_tests) in
    let joins : Trees v (joined (with_queued f Waiting u true) t w p) = subst (λ z. Trees v (joined (with_queued f Waiting u true) t w (Along a z))) b.from (join_trees v (with_queued f Waiting u true) t w a b.ends l s.trees free (record { ends = b.out; child = b.to; positive = rw b.sends some; same_tree = ap f.tree b.from ∙ s.mine })) in
    scanning_more {f = f'} l
    (record {
      trees = requeue_trees v (joined (with_queued f Waiting u true) t w p) _ (at_twice (f.queued Waiting) u w) (λ _ is. is) joins;
      mine = kept u t s.mine;
      grows = record { size = s.grows.size; orphans = s.grows.orphans; stages = s.grows.stages };
      left = omega (arith, s.left, growth_joined v.graph.nodes w f t p there free);
      seen = λ j c e below is from at more. kept (far t e) t (s.seen j c e below is from at more);
    })
    b
    (λ _. at_here f.tree w (Some t) w refl)

pub scanning_grown : {v : Net} {t : Terminal} {u k : ℕ} {before f f' : Forest} {h : Neighbour} → Lawful v → Scanning v t u k before f → Beside v t u k h → 0 < h.outward_residual → f.tree h.node ≡ None → f' ≡ joined f t h.node (Along h.outward u) → Scanning v t u (k + 1) before f'
scanning_grown l s b some free is = rw is (scanning_joined _ _ _ _ _ _ _ l s b some free)

-- every arc has been seen: the node need not wait
pub scanning_ends : {v : Net} {t : Terminal} {u k : ℕ} {before f : Forest} → Lawful v → Scanning v t u k before f → slice_get (v.graph.arcs u) k ≡ None → Trees v f
scanning_ends {v = v} {t = t} {u = u} {k = k} {f = f} l s past = sleep_trees v f u s.trees (λ y a e in_tree is from some.
    let side : y ≡ t = cc in
    rw side (through_all v.graph t u k (Inside v f t) l.graph past s.seen a e is (rw side at from) some))
