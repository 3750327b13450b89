-- The nodes marked in are a cheapest selection, and with them those marked either: nothing can be sent out of them once all paths are carried out.
use Rattle.std.proofs.Common.{◌≡◌, ℕ, ◌<◌, Bool, true, false, not, refl, ap, subst, arith}
use Rattle.network.specs.declared.mark.Mark.{Mark}
use Rattle.network.specs.declared.mark.Mark.TheVariants.{In, Out, Either}
use Rattle.network.specs.declared.terminal.Terminal.{Terminal}
use Rattle.network.specs.declared.terminal.Terminal.TheVariants.{Source, Sink}
use Rattle.network.specs.Nets.{Graph, Net}
use Rattle.network.specs.Cuts.{Selection, cost, Cheapest, Marked}
use Rattle.network.specs.Paths.{carried_all, gain}
use Rattle.network.specs.Sides.{side, Closed}
use Rattle.network.specs.Theorems.{inside, MarkedCheapest}
use Rattle.network.proofs.Carrying.{paths_lower}
use Rattle.network.proofs.Extremes.{cheapest_closed, constant_apart}
use Rattle.network.proofs.Duality.{max_flow_min_cut}
use Rattle.network.proofs.Laws.{head_there}

-- a node on a terminal's side of every cheapest selection is there in a selection by marks
root_by_mark : (v : Net) (S : Selection) (t : Terminal) (u : ℕ) (b : Bool) (m : Mark) → S u ≡ inside b m → (X : Selection) × Cheapest v X → ((X : Selection) → Cheapest v X → side t X u ≡ true) → Marked v u m → side t S u ≡ true
root_by_mark v S Source u b In is x on h = is
root_by_mark v S Source u b Out is (X, c) on h = cc (on X c, h X c)
root_by_mark v S Source u b Either is x on (_, (Y, c, off)) = cc (on Y c)
root_by_mark v S Sink u b In is (X, c) on h = let no : false ≡ true = rw (h X c) at (on X c) in cc
root_by_mark v S Sink u b Out is x on h = ap not is
root_by_mark v S Sink u b Either is x on ((Y, c, held), _) = let no : false ≡ true = rw held at (on Y c) in cc

-- where every cheapest selection that holds u holds w, so does a selection by marks
arc_by_mark : (v : Net) (u w : ℕ) (b : Bool) (m k : Mark) → (X : Selection) × Cheapest v X → ((X : Selection) → Cheapest v X → X u ≡ true → X w ≡ true) → Marked v u m → Marked v w k → inside b m ≡ true → inside b k ≡ true
arc_by_mark v u w b m In x on h j is = refl
arc_by_mark v u w b In Out (X, c) on h j is = cc (on X c (h X c), j X c)
arc_by_mark v u w b In Either x on h (_, (Y, c, off)) is = cc (on Y c (h Y c))
arc_by_mark v u w b Out Out x on h j is = cc
arc_by_mark v u w b Out Either x on h j is = cc
arc_by_mark v u w b Either Out x on ((Y, c, held), _) j is = cc (on Y c held, j Y c)
arc_by_mark v u w b Either Either x on h j is = is

pub marked_cheapest : MarkedCheapest
marked_cheapest v mark b l marks =
    let (ps, paths, (X, cheapest, is)) = max_flow_min_cut v l in
    let w = carried_all v ps in
    let moved = paths_lower v ps l paths in
    let same = constant_apart v w (gain ps) moved.costs in
    let free : cost w X ≡ 0 = omega (arith, moved.costs X) in
    let closed : (Y : Selection) → Cheapest v Y → Closed w Y = λ Y c. (cheapest_closed w X Y moved.lawful free).0 (same.down Y c) in
    let marked : (u : ℕ) → u < w.graph.nodes → Marked v u (mark u) = λ u there. marks u (subst (λ (g : Graph). u < g.nodes) moved.graph there) in
    let left : Closed w (λ u. inside b (mark u)) = record {
      roots = λ t u there some. root_by_mark v (λ k. inside b (mark k)) t u b (mark u) refl (X, cheapest) (λ Y c. (closed Y c).roots t u there some) (marked u there);
      arcs = λ a e there some. arc_by_mark v e.tail e.head b (mark e.tail) (mark e.head) (X, cheapest) (λ Y c. (closed Y c).arcs a e there some) (marked e.tail (moved.lawful.graph.tail_there a e there)) (marked e.head (head_there w.graph a e moved.lawful.graph there));
    } in
    same.up (λ u. inside b (mark u)) ((cheapest_closed w X (λ u. inside b (mark u)) moved.lawful free).1 left)
