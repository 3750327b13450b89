-- Closed selections: they are those that cost nothing, and what is reached from a terminal is on its side of each.
use Rattle.std.proofs.Common.{◌≡◌, ℕ, ◌<◌, Bool, true, not, Some, None, Option, refl, ap, subst, arith}
use Rattle.std.proofs.lemmas.Bool.{cases_Bool}
use Rattle.network.specs.declared.terminal.Terminal.{Terminal}
use Rattle.network.specs.declared.terminal.Terminal.TheVariants.{Source, Sink}
use Rattle.network.specs.Nets.{Ends, Net, Lawful}
use Rattle.network.specs.Cuts.{Selection, node_cost, arc_cost, cost}
use Rattle.network.specs.Sides.{near, far, Separate, side, Closed}
use Rattle.network.specs.Sides.Reached.{root, along}
use Rattle.network.specs.Theorems.{ReachedSides}
use Rattle.network.proofs.Sums.{sum_zero, part_le_sum}
use Rattle.network.proofs.Laws.{near_there}

contrary : (a b : Bool) → (a ≡ true → b ≡ true) → not b ≡ true → not a ≡ true
contrary a b f h = grind (arith, cases_Bool a, cases_Bool b)

outside : (b : Bool) → (b ≡ true → ⊥) → not b ≡ true
outside b h = grind (arith, cases_Bool b)

pub closed_free : (v : Net) (X : Selection) → Closed v X → cost v X ≡ 0
closed_free v X c =
    let nodes = sum_zero v.graph.nodes (node_cost v X) each_node in
    let arcs = sum_zero 32768 (arc_cost v X) (λ a _. each_arc a (v.graph.ends a) refl) in
    omega arith
  where
    each_node : (u : ℕ) → u < v.graph.nodes → node_cost v X u ≡ 0
    each_node u there =
        let source = c.roots Source u there in
        let sink = c.roots Sink u there in
        grind (arith, cases_Bool (X u), source, sink)

    each_arc : (a : ℕ) (o : Option Ends) → v.graph.ends a ≡ o → arc_cost v X a ≡ 0
    each_arc a None is = rw is refl
    each_arc a (Some e) is =
        let arc = c.arcs a e is in
        rw is (grind (arith, cases_Bool (X e.tail), cases_Bool (X e.head), arc))

pub free_closed : (v : Net) (X : Selection) → Lawful v → cost v X ≡ 0 → Closed v X
free_closed v X l free = record {
  roots = roots;
  arcs = λ a e is some tail.
      let part = part_le_sum 32768 a (arc_cost v X) (l.graph.small_code a e is) in
      let paid = rw is at part in
      grind (arith, cases_Bool (X e.head));
}
  where
    roots : (t : Terminal) (u : ℕ) → u < v.graph.nodes → 0 < v.terminal t u → side t X u ≡ true
    roots Source u there some = let part = part_le_sum v.graph.nodes u (node_cost v X) there in grind (arith, cases_Bool (X u))
    roots Sink u there some = let part = part_le_sum v.graph.nodes u (node_cost v X) there in grind (arith, cases_Bool (X u))

-- an arc of positive residual that a search follows does not leave the terminal's side of a closed selection
arcs_on_side : (v : Net) (X : Selection) (t : Terminal) (a : ℕ) (e : Ends) → Closed v X → v.graph.ends a ≡ Some e → 0 < v.residual a → side t X (near t e) ≡ true → side t X (far t e) ≡ true
arcs_on_side v X Source a e c is some = c.arcs a e is some
arcs_on_side v X Sink a e c is some = contrary (X e.tail) (X e.head) (c.arcs a e is some)

pub reached_side : ReachedSides
reached_side v X t u c (root there some) = c.roots t u there some
reached_side v X t u c (along a e is some r from) = subst (λ w. side t X w ≡ true) from (arcs_on_side v X t a e c is some (reached_side v X t (near t e) c r))

-- where no node is reached from both terminals, what is reached from one is its side of a closed selection
pub separate_closed : (v : Net) (S : Terminal → Selection) (t : Terminal) → Lawful v → Separate v S → Closed v (side t (S t))
separate_closed v S t l s = record { roots = roots t; arcs = arcs t }
  where
    on : (t : Terminal) (u : ℕ) → u < v.graph.nodes → 0 < v.terminal t u → S t u ≡ true
    on t u there some = (s.reached t).complete u (root there some)

    roots : (t r : Terminal) (u : ℕ) → u < v.graph.nodes → 0 < v.terminal r u → side r (side t (S t)) u ≡ true
    roots Source Source u there some = on Source u there some
    roots Source Sink u there some = outside (S Source u) (λ both. s.apart u there both (on Sink u there some))
    roots Sink Source u there some = outside (S Sink u) (s.apart u there (on Source u there some))
    roots Sink Sink u there some = ap (λ b. not (not b)) (on Sink u there some)

    followed : (t : Terminal) (a : ℕ) (e : Ends) → v.graph.ends a ≡ Some e → 0 < v.residual a → S t (near t e) ≡ true → S t (far t e) ≡ true
    followed t a e is some from = (s.reached t).complete (far t e) (along a e is some ((s.reached t).sound (near t e) (near_there v.graph t a e l.graph is) from) refl)

    arcs : (t : Terminal) (a : ℕ) (e : Ends) → v.graph.ends a ≡ Some e → 0 < v.residual a → side t (S t) e.tail ≡ true → side t (S t) e.head ≡ true
    arcs Source a e is some = followed Source a e is some
    arcs Sink a e is some = contrary (S Sink e.head) (S Sink e.tail) (followed Sink a e is some)
