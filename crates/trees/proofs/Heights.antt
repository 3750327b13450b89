-- No climb meets a node twice, and climbs in different trees share none: so climbs are short.
use Rattle.std.proofs.Common.{◌≡◌, ℕ, suc, ◌+◌, ◌<◌, ◌≤◌, List, [], ◌∷◌, ◌++◌, length, Some, sym, refl, ap, subst, arith}
use Rattle.std.proofs.ByRecursion.{All-append, All-weaker}
use Rattle.std.proofs.lemmas.List.{length-append}
use Rattle.std.specs.List.{AllByRecursion, slice_get}
use Rattle.network.specs.declared.terminal.Terminal.{Terminal}
use Rattle.network.specs.Nets.{Ends, Graph, Net, Lawful, Distinct, ends_of}
use Rattle.network.specs.Sides.{near}
use Rattle.network.proofs.Lists.{distinct_one, all_nth, distinct_append, distinct_cons}
use Rattle.network.proofs.Pigeons.{pigeons}
use Rattle.network.proofs.Laws.{ends_are, near_there}
use Rattle.trees.specs.declared.lane.Lane.TheVariants.{Orphans}
use Rattle.trees.specs.declared.work.Parent.TheVariants.{Root}
use Rattle.trees.specs.Forests.{Forest}
use Rattle.trees.specs.Rings.{Empty}
use Rattle.trees.specs.Trees.{Climb, Trees}
use Rattle.trees.specs.Trees.Climb.{here, up}
use Rattle.trees.proofs.Climbs.{parent_arc, climb_on, Height, one_height}

-- the nodes that a climb from u meets, both its ends with them
abbrev pub nodes_up : Graph → Terminal → ℕ → List ℕ → List ℕ
nodes_up g t u [] = u ∷ []
nodes_up g t u (a ∷ more) = u ∷ nodes_up g t (near t (ends_of g a)) more

nodes_length : (g : Graph) (t : Terminal) (u : ℕ) (arcs : List ℕ) → length (nodes_up g t u arcs) ≡ suc (length arcs)
nodes_length g t u [] = refl
nodes_length g t u (a ∷ more) = ap suc (nodes_length g t (near t (ends_of g a)) more)

-- x is in the tree of t, at most k arcs below the terminal
pub record Within (v : Net) (f : Forest) (t : Terminal) (k x : ℕ) : Type 0 where
  pub there : x < v.graph.nodes
  pub tree : f.tree x ≡ Some t
  pub height : ℕ
  pub low : height ≤ k
  pub is : Height v.graph f.parent t x height

-- the nodes that a climb to the terminal meets are at most as far below the terminal as the first
pub nodes_within : (v : Net) (f : Forest) (t : Terminal) (u w : ℕ) (arcs : List ℕ) → Lawful v → Trees v f → u < v.graph.nodes → f.tree u ≡ Some t → Climb v.graph f.parent t u w arcs → f.parent w ≡ Root → AllByRecursion (Within v f t (length arcs)) (nodes_up v.graph t u arcs)
nodes_within v f t u w arcs l h there in_tree here top = (record { there = there; tree = in_tree; height = 0; low = omega arith; is = (u, [], here, top, refl) }, tt)
nodes_within v f t u w arcs l h there in_tree (up {arcs = more} a e hung is c) top =
    let g = v.graph in
    let k = length more in
    let above = nodes_within v f t (near t e) w more l h (near_there g t a e l.graph is) (parent_arc v f t u a e h there in_tree hung is).same_tree c top in
    let raised = All-weaker (Within v f t k) (Within v f t (suc k)) (λ x (s : Within v f t k x). record { there = s.there; tree = s.tree; height = s.height; low = omega (arith, s.low); is = s.is }) (nodes_up g t (near t e) more) above in (
      record { there = there; tree = in_tree; height = suc k; low = omega arith; is = (w, a ∷ more, up a e hung is c, top, refl) },
      rw (ends_are g a e is) raised,
    )

-- a climb to the terminal rises with each step, so it meets no node twice
pub nodes_distinct : (v : Net) (f : Forest) (t : Terminal) (u w : ℕ) (arcs : List ℕ) → Lawful v → Trees v f → u < v.graph.nodes → f.tree u ≡ Some t → Climb v.graph f.parent t u w arcs → f.parent w ≡ Root → Distinct (nodes_up v.graph t u arcs)
nodes_distinct v f t u w arcs l h there in_tree here top = distinct_one u
nodes_distinct v f t u w arcs l h there in_tree (up {arcs = more} a e hung is c) top =
    let g = v.graph in
    let nodes = nodes_up g t (near t e) more in
    let above = near_there g t a e l.graph is in
    let same = (parent_arc v f t u a e h there in_tree hung is).same_tree in
    let new : (k : ℕ) → slice_get nodes k ≡ Some u → ⊥ = λ k at.
    let s = all_nth (Within v f t (length more)) nodes k u (nodes_within v f t (near t e) w more l h above same c top) at in
    omega (arith, s.low, one_height g f.parent t u s.height (suc (length more)) s.is (w, a ∷ more, up a e hung is c, top, refl)) in
    subst (λ (x : Ends). Distinct (u ∷ nodes_up g t (near t x) more)) (sym (ends_are g a e is)) (distinct_cons u nodes (nodes_distinct v f t (near t e) w more l h above same c top) new)

-- climbs to the terminals in different trees have, together, at most as many arcs and ends as there are nodes
pub roots_short : (v : Net) (f : Forest) (t s : Terminal) (u x w z : ℕ) (xs ys : List ℕ) → Lawful v → Trees v f → (t ≡ s → ⊥) → u < v.graph.nodes → f.tree u ≡ Some t → x < v.graph.nodes → f.tree x ≡ Some s → Climb v.graph f.parent t u w xs → f.parent w ≡ Root → Climb v.graph f.parent s x z ys → f.parent z ≡ Root → length xs + length ys + 2 ≤ v.graph.nodes
roots_short v f t s u x w z xs ys l h apart there in_tree there' in-other c top d end =
    let g = v.graph in
    let ms = nodes_up g t u xs in
    let ns = nodes_up g s x ys in
    let mine = nodes_within v f t u w xs l h there in_tree c top in
    let others = nodes_within v f s x z ys l h there' in-other d end in
    let separate : (y j k : ℕ) → slice_get ms j ≡ Some y → slice_get ns k ≡ Some y → ⊥ = λ y j k at at'.
    let in_mine = (all_nth (Within v f t (length xs)) ms j y mine at).tree in
    let in_others = (all_nth (Within v f s (length ys)) ns k y others at').tree in
    let same : t ≡ s = cc in
    apart same in
    let below = All-append (λ y. y < g.nodes) ms ns (All-weaker (Within v f t (length xs)) (λ y. y < g.nodes) (λ y r. r.there) ms mine) (All-weaker (Within v f s (length ys)) (λ y. y < g.nodes) (λ y r. r.there) ns others) in
    let few = pigeons g.nodes (ms ++ ns) below (distinct_append ms ns (nodes_distinct v f t u w xs l h there in_tree c top) (nodes_distinct v f s x z ys l h there' in-other d end) separate) in
    omega (arith, length-append ms ns, nodes_length g t u xs, nodes_length g s x ys)

-- with no orphans every climb goes on to its terminal, so each two are as short
pub climbs_short : (v : Net) (f : Forest) (t s : Terminal) (u x w z : ℕ) (xs ys : List ℕ) → Lawful v → Trees v f → Empty f Orphans → (t ≡ s → ⊥) → u < v.graph.nodes → f.tree u ≡ Some t → x < v.graph.nodes → f.tree x ≡ Some s → Climb v.graph f.parent t u w xs → Climb v.graph f.parent s x z ys → length xs + length ys + 2 ≤ v.graph.nodes
climbs_short v f t s u x w z xs ys l h none apart there in_tree there' in-other c d =
    let (w', more, c', top) = climb_on v f t u w xs l h none there in_tree c in
    let (z', rest, d', end) = climb_on v f s x z ys l h none there' in-other d in
    omega (arith, roots_short v f t s u x w' z' (xs ++ more) (ys ++ rest) l h apart there in_tree there' in-other c' top d' end, length-append xs more, length-append ys rest)
