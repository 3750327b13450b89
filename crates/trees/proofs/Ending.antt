-- When nobody waits and nobody is an orphan, the trees hold exactly what is reached from their terminals.
use Rattle.std.proofs.Common.{◌≡◌, ℕ, ◌<◌, true, List, Some, None, Option, sym, refl, ap, ◌∙◌, ⊎_elim, arith}
use Rattle.network.specs.declared.terminal.Terminal.{Terminal}
use Rattle.network.specs.declared.terminal.Terminal.TheVariants.{Source, Sink}
use Rattle.network.specs.Nets.{Net, Lawful}
use Rattle.network.specs.Sides.{near, far, Reached, Separate}
use Rattle.network.specs.Sides.Reached.{root, along}
use Rattle.network.proofs.Laws.{near_there}
use Rattle.trees.specs.declared.lane.Lane.TheVariants.{Waiting, Orphans}
use Rattle.trees.specs.declared.work.Parent.TheVariants.{Orphan, Root}
use Rattle.trees.specs.Forests.{Forest}
use Rattle.trees.specs.Rings.{Empty}
use Rattle.trees.specs.Trees.{Climb, Trees, is_of, tree_nodes}
use Rattle.trees.specs.Trees.Climb.{here, up}
use Rattle.trees.proofs.Climbs.{parent_arc, climb_stays, not_lost}

pub is_of_some : (o : Option Terminal) (t : Terminal) → is_of o t ≡ true → o ≡ Some t
is_of_some None t is = cc
is_of_some (Some Source) Source is = refl
is_of_some (Some Source) Sink is = cc
is_of_some (Some Sink) Source is = cc
is_of_some (Some Sink) Sink is = refl

pub is_of_true : (t : Terminal) → is_of (Some t) t ≡ true
is_of_true Source = refl
is_of_true Sink = refl

-- what hangs from a node that is reached is reached
reached_below : (v : Net) (f : Forest) (t : Terminal) → Lawful v → Trees v f → (u w : ℕ) (arcs : List ℕ) → u < v.graph.nodes → f.tree u ≡ Some t → Climb v.graph f.parent t u w arcs → Reached v t w → Reached v t u
reached_below v f t l h u w _ there in_tree here top = top
reached_below v f t l h u w _ there in_tree (up {arcs = more} a e at is rest) top =
    let b = parent_arc v f t u a e h there in_tree at is in
    along a e is b.positive (reached_below v f t l h (near t e) w more (near_there v.graph t a e l.graph is) b.same_tree rest top) b.child

pub separate : (v : Net) (f : Forest) → Lawful v → Trees v f → Empty f Waiting → Empty f Orphans → Separate v (tree_nodes f)
separate v f l h asleep adopted = record {
  reached = λ t. record {
    sound = λ u there held.
        let in_tree = is_of_some (f.tree u) t held in
        let (w, arcs, climb, top) = h.hangs t u there in_tree in
        let (w-there, w-tree) = climb_stays v f t u w arcs l h there in_tree climb in
        ⊎_elim
        (λ (is : f.parent w ≡ Root). reached_below v f t l h u w arcs there in_tree climb (root w-there (h.rooted t w w-there w-tree is)))
        (λ (is : f.parent w ≡ Orphan). absurd (not_lost v f t w h adopted w-there w-tree is))
        top;
    complete = λ u r. held t u r;
  };
  apart = λ u there first second. cc (is_of_some (f.tree u) Sink second);
}
  where
    inside : (t : Terminal) (u : ℕ) → Reached v t u → f.tree u ≡ Some t
    inside t u (root there some) = (h.roots t u there some).0
    inside t u (along a e is some from to) = ⊎_elim
        (λ (in_far : f.tree (far t e) ≡ Some t). ap f.tree (sym to) ∙ in_far)
        (λ (waits : f.queued Waiting (near t e) ≡ true). cc (asleep (near t e) (omega (arith, h.size, near_there v.graph t a e l.graph is))))
        (h.frontier t a e is some (inside t (near t e) from))

    held : (t : Terminal) (u : ℕ) → Reached v t u → tree_nodes f t u ≡ true
    held t u r = ap (λ (o : Option Terminal). is_of o t) (inside t u r) ∙ is_of_true t
