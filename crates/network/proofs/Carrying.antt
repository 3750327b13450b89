-- Carrying out augmenting paths: the laws stand, and each path lowers every selection's cost by its amount.
use Rattle.std.proofs.Common.{◌≡◌, ℕ, zero, suc, ◌+◌, ◌<◌, ◌≤◌, List, [], ◌∷◌, ◌++◌, map, Some, sym, refl, ap, ◌∙◌, subst, arith}
use Rattle.std.proofs.ByRecursion.{all-has, has_push}
use Rattle.std.proofs.lemmas.Bool.{cases_eq, cases_Bool}
use Rattle.std.specs.List.{AllByRecursion, slice_get}
use Rattle.network.specs.declared.terminal.Terminal.{Terminal}
use Rattle.network.specs.declared.terminal.Terminal.TheVariants.{Source, Sink}
use Rattle.network.specs.Nets.{Ends, Graph, Net, LawfulGraph, Lawful, Distinct, taken, shifted}
use Rattle.network.specs.Cuts.{Selection, cost}
use Rattle.network.specs.Paths.{Path, Chain, passed, last_node, Augmenting, on_the_way, shifted_along, carried}
use Rattle.network.specs.Theorems.{PathLowers, PathsLower, FewPaths}
use Rattle.network.proofs.Lists.{distinct_more, not_again, nth_nil}
use Rattle.network.proofs.Laws.{ends_are, head_there, residuals, taken_lawful, shifted_lawful}
use Rattle.network.proofs.Costs.{when, taken_cost, shifted_cost}

-- each arc of a chain stands where its tail stands among the nodes passed
tails_passed : (g : Graph) (u : ℕ) (arcs : List ℕ) → Chain g u arcs → (k b : ℕ) → slice_get arcs k ≡ Some b → (d : Ends) × (g.ends b ≡ Some d) × (slice_get (passed g u arcs) k ≡ Some d.tail)
tails_passed g u [] c k b at = nth_nil k b at
tails_passed g u (a ∷ more) (e, is, from, c) zero b at =
    (e, cc, cc)
tails_passed g u (a ∷ more) (e, is, from, c) (suc k) b at =
    let (d, at_b, tail) = tails_passed g e.head more c k b at in
    (d, at_b, subst (λ (x : Ends). slice_get (passed g x.head more) k ≡ Some d.tail) (sym (ends_are g a e is)) tail)

pub last_there : (g : Graph) (u : ℕ) (arcs : List ℕ) → LawfulGraph g → u < g.nodes → Chain g u arcs → last_node g u arcs < g.nodes
last_there g u [] l there c = there
last_there g u (a ∷ more) l there (e, is, from, c) =
    subst (λ (x : Ends). last_node g x.head more < g.nodes) (sym (ends_are g a e is)) (last_there g e.head more l (head_there g a e l is) c)

-- every arc has room for x
abbrev pub Roomy : Net → List ℕ → ℕ → Type 0
Roomy v arcs x = (k b : ℕ) → slice_get arcs k ≡ Some b → x ≤ v.residual b

-- after a shift along the first arc of a chain of distinct nodes, the others have as much room as before, or more
pub roomy_more : (v : Net) (u a x : ℕ) (e : Ends) (more : List ℕ) → Lawful v → v.graph.ends a ≡ Some e → e.tail ≡ u → Chain v.graph e.head more → Distinct (u ∷ passed v.graph e.head more) → Roomy v (a ∷ more) x → Roomy (shifted v a x) more x
roomy_more v u a x e more l is from c d room k b at =
    let now = residuals v a x e l is in
    let (f, at_b, tail) = tails_passed v.graph e.head more c k b at in
    let new = not_again u (passed v.graph e.head more) d k in
    grind (arith, cases_eq b a, cases_eq b e.reverse, now.others b, room (suc k) b at)

-- what shifting x along a chain from u to w leaves and changes
pub record Along (v : Net) (u w x : ℕ) (after : Net) : Type 0 where
  pub graph : after.graph ≡ v.graph
  pub terminal : after.terminal ≡ v.terminal
  pub lawful : Lawful after
  pub costs : (X : Selection) → cost after X + when (X u) x ≡ cost v X + when (X w) x

pub along : (v : Net) (u : ℕ) (arcs : List ℕ) (x : ℕ) → Lawful v → Chain v.graph u arcs → Distinct (passed v.graph u arcs) → Roomy v arcs x → Along v u (last_node v.graph u arcs) x (shifted_along v arcs x)
along v u [] x l c d room = record { graph = refl; terminal = refl; lawful = l; costs = λ X. refl }
along v u (a ∷ more) x l (e, is, from, c) d room =
    let g = v.graph in
    let ends = ends_are g a e is in
    let apart = subst (λ (y : Ends). Distinct (u ∷ passed g y.head more)) ends d in
    let room_first = room 0 a refl in
    let rest = along (shifted v a x) e.head more x (shifted_lawful v a x e l is room_first) c (distinct_more u (passed g e.head more) apart) (roomy_more v u a x e more l is from c apart room) in
    subst (λ (y : Ends). Along v u (last_node g y.head more) x (shifted_along (shifted v a x) more x)) (sym ends) (record {
      graph = rest.graph;
      terminal = rest.terminal;
      lawful = rest.lawful;
      costs = λ X. omega (arith, rest.costs X, shifted_cost v X a x e l is room_first, ap (λ y. when (X y) x) from);
    })

room_of : (f : ℕ → ℕ) (arcs ys : List ℕ) (x k b : ℕ) → AllByRecursion (λ r. x ≤ r) (map f arcs ++ ys) → slice_get arcs k ≡ Some b → x ≤ f b
room_of f [] ys x k b least at = nth_nil k b at
room_of f (a ∷ arcs) ys x zero b least at = grind (arith, least.0)
room_of f (a ∷ arcs) ys x (suc k) b least at = room_of f arcs ys x k b least.1 at

-- every arc of an augmenting path has room for its amount
pub path_room : (v : Net) (p : Path) → Augmenting v p → Roomy v p.arcs p.amount
path_room v p h k b = room_of v.residual p.arcs (v.terminal Sink (last_node v.graph p.first p.arcs) ∷ []) p.amount k b h.amount.least.1

-- the amount taken at the path's first node
abbrev pub begun : Net → Path → Net
begun v p = taken v Source p.first p.amount

path_along : (v : Net) (p : Path) → Lawful v → Augmenting v p → Along (begun v p) p.first (last_node v.graph p.first p.arcs) p.amount (shifted_along (begun v p) p.arcs p.amount)
path_along v p l h = along (begun v p) p.first p.arcs p.amount (taken_lawful v Source p.first p.amount l) h.chain h.distinct (path_room v p h)

-- where a path ends, its amount can be taken
pub path_end : (v : Net) (p : Path) → Lawful v → Augmenting v p → (last_node v.graph p.first p.arcs < (shifted_along (begun v p) p.arcs p.amount).graph.nodes) × (p.amount ≤ (shifted_along (begun v p) p.arcs p.amount).terminal Sink (last_node v.graph p.first p.arcs))
path_end v p l h =
    let g = v.graph in
    let w = last_node g p.first p.arcs in
    let x = p.amount in
    let way = path_along v p l h in (
      subst (λ (y : Graph). w < y.nodes) (sym way.graph) (last_there g p.first p.arcs l.graph h.there h.chain),
      subst (λ (f : Terminal → ℕ → ℕ). x ≤ f Sink w) (sym way.terminal) (all-has (λ r. x ≤ r) (map v.residual p.arcs ++ v.terminal Sink w ∷ []) (v.terminal Sink w) h.amount.least.1 (has_push (map v.residual p.arcs) (v.terminal Sink w))),
    )

pub path_lowers : PathLowers
path_lowers v p l h =
    let u = p.first in
    let w = last_node v.graph u p.arcs in
    let x = p.amount in
    let way = path_along v p l h in
    let moved = shifted_along (begun v p) p.arcs x in
    let (there, room) = path_end v p l h in
    record {
      graph = way.graph;
      lawful = taken_lawful moved Sink w x way.lawful;
      costs = λ X.
          let first = taken_cost v X Source u x h.there h.amount.least.0 in
          let chain = way.costs X in
          let end = taken_cost moved X Sink w x there room in
          grind (arith, cases_Bool (X u), cases_Bool (X w));
    }

pub paths_lower : PathsLower
paths_lower v [] l h = record { graph = refl; lawful = l; costs = λ X. omega arith }
paths_lower v (p ∷ ps) l (h, more) =
    let one = path_lowers v p l h in
    let rest = paths_lower (carried v p) ps one.lawful more in
    record {
      graph = rest.graph ∙ one.graph;
      lawful = rest.lawful;
      costs = λ X. omega (arith, one.costs X, rest.costs X);
    }

pub some_amount : (v : Net) (p : Path) → Augmenting v p → 0 < p.amount
some_amount v p h = all-has (λ r. 0 < r) (on_the_way v p.first p.arcs) p.amount h.positive h.amount.among

pub few_paths : FewPaths
few_paths v [] h = omega arith
few_paths v (p ∷ ps) (h, more) = omega (arith, some_amount v p h, few_paths (carried v p) ps more)
