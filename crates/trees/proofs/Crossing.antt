-- Over a bridge: from the climbs at its two ends to the path that is written.
use Rattle.std.proofs.Common.{◌≡◌, ℕ, ◌+◌, ◌<◌, ◌≤◌, List, [], ◌∷◌, ◌++◌, map, length, Some, refl, ap, ◌∙◌, arith}
use Rattle.std.specs.List.{AllByRecursion}
use Rattle.network.specs.declared.terminal.Terminal.{Terminal}
use Rattle.network.specs.declared.terminal.Terminal.TheVariants.{Source, Sink}
use Rattle.network.specs.Nets.{Ends, Graph, Net, Lawful, ends_of}
use Rattle.network.specs.Paths.{Chain, last_node}
use Rattle.network.specs.Sides.{near}
use Rattle.network.proofs.Pigeons.{few_words}
use Rattle.network.proofs.Laws.{ends_are, near_there}
use Rattle.network.proofs.Carrying.{last_there}
use Rattle.network.proofs.Searching.{smallest}
use Rattle.trees.specs.Forests.{Forest}
use Rattle.trees.specs.Trees.{Climb, Bridge, There}
use Rattle.trees.specs.Trees.Climb.{here}
use Rattle.trees.specs.Searches.{Bridges}
use Rattle.trees.specs.Climbs.{Settled, ClimbsFit, Climbed, DescentWritten, Passable}
use Rattle.trees.proofs.Heights.{climbs_short}
use Rattle.trees.proofs.Bridges.{over, bridge_leads, bridged}

-- u is the bridge's end in the tree of t
abbrev pub EndOf : Net → Terminal → ℕ → ℕ → Type 0
EndOf v t a u = u ≡ near t (ends_of v.graph a)

end_is : (v : Net) (f : Forest) (t : Terminal) (a u : ℕ) (e : Ends) → Bridge v f a e → EndOf v t a u → u ≡ near t e
end_is v f t a u e b from = from ∙ ap (near t) (ends_are v.graph a e b.ends)

near_tree : (v : Net) (f : Forest) (t : Terminal) (a : ℕ) (e : Ends) → Bridge v f a e → f.tree (near t e) ≡ Some t
near_tree v f Source a e b = b.tail
near_tree v f Sink a e b = b.head

pub end_there : (v : Net) (f : Forest) (t : Terminal) (a u : ℕ) → Lawful v → Bridges v f a → EndOf v t a u → u < v.graph.nodes
end_there v f t a u l (e, b) from = rw (end_is v f t a u e b from) (near_there v.graph t a e l.graph b.ends)

pub end_tree : (v : Net) (f : Forest) (t : Terminal) (a u : ℕ) → Bridges v f a → EndOf v t a u → f.tree u ≡ Some t
end_tree v f t a u (e, b) from = rw (end_is v f t a u e b from) (near_tree v f t a e b)

pub some_node : {v : Net} {f : Forest} {a : ℕ} → Lawful v → Bridges v f a → 0 < v.graph.nodes
some_node {a = a} l (e, b) = omega (arith, l.graph.tail_there a e b.ends)

-- the climb from an end, as one from that end of the bridge
from_end : (v : Net) (f : Forest) (t : Terminal) (a u w : ℕ) (e : Ends) (arcs : List ℕ) → Bridge v f a e → EndOf v t a u → Climb v.graph f.parent t u w arcs → Climb v.graph f.parent t (near t e) w arcs
from_end v f t a u w e arcs b from c = rw (← end_is v f t a u e b from) c

-- the climbs from both ends are short together
pub ends_short : (v : Net) (f : Forest) (a tail head w z : ℕ) (xs ys : List ℕ) → Lawful v → Settled v f → Bridges v f a → EndOf v Source a tail → EndOf v Sink a head → Climb v.graph f.parent Source tail w xs → Climb v.graph f.parent Sink head z ys → length xs + length ys + 2 ≤ v.graph.nodes
ends_short v f a tail head w z xs ys l s b from to c d =
    climbs_short v f Source Sink tail head w z xs ys l s.trees s.no_orphans (λ same. cc) (end_there v f Source a tail l b from) (end_tree v f Source a tail b from) (end_there v f Sink a head l b to) (end_tree v f Sink a head b to) c d

-- a climb from the tail has room, and room is left for the bridge
pub tail_short : {v : Net} {f : Forest} {a tail w : ℕ} {xs : List ℕ} → Lawful v → Settled v f → Bridges v f a → EndOf v Source a tail → Climb v.graph f.parent Source tail w xs → length xs + 2 ≤ v.graph.nodes
tail_short {v = v} {f = f} {a = a} {tail = tail} {w = w} {xs = xs} l s b from c = omega (arith, ends_short v f a tail (near Sink (ends_of v.graph a)) w (near Sink (ends_of v.graph a)) xs [] l s b from refl c here)

-- with the arcs down to the tail written, a climb from the head has room in what is left
pub ascent_fits : (v : Net) (f : Forest) (a tail head m : ℕ) (before after : List ℕ) (told : ℕ × ℕ) → Lawful v → Settled v f → Bridges v f a → EndOf v Source a tail → EndOf v Sink a head → DescentWritten v.graph f.parent Source tail before after told → v.graph.nodes ≤ told.0 + m + 2 → ClimbsFit v.graph f.parent Sink head m
ascent_fits v f a tail head m before after told l s b from to (xs, c, _) room z ys d = omega (arith, ends_short v f a tail head told.1 z xs ys l s b from to c.climb d, c.count)

-- the path over the bridge, of the climbs from its two ends
pub crossed : {v : Net} {f : Forest} {a tail head : ℕ} {below above : ℕ × ℕ} {xs ys : List ℕ} → Lawful v → Settled v f → Bridges v f a → EndOf v Source a tail → EndOf v Sink a head → Climbed v.graph f.parent Source tail below xs → Climbed v.graph f.parent Sink head above ys → Passable v f below.1 above.1 (over xs a ys)
crossed {v = v} {f = f} {a = a} {tail = tail} {head = head} {below = below} {above = above} {xs = xs} {ys = ys} l s (e, b) from to c d =
    let first = below.1 in
    let last = above.1 in
    let down = from_end v f Source a tail first e xs b from c.climb in
    let up = from_end v f Sink a head last e ys b to d.climb in
    let way = bridge_leads v f a e first last xs ys l s.trees b down c.top up d.top in
    record {
      augmenting = λ x least. (bridged v f a e first last x xs ys l s.trees b down c.top up d.top least).0;
      onward = way.onward;
      to = way.to;
    }

chain_there : (g : Graph) (u : ℕ) (arcs : List ℕ) → Chain g u arcs → AllByRecursion (There g) arcs
chain_there g u [] c = tt
chain_there g u (a ∷ more) (e, is, _, c) = ((e, is), chain_there g e.head more c)

-- what a way passes is there, and its arcs are fewer than the nodes
pub record WayThere (v : Net) (first last : ℕ) (arcs : List ℕ) : Type 0 where
  pub first_there : first < v.graph.nodes
  pub last_there : last < v.graph.nodes
  pub arcs_there : AllByRecursion (There v.graph) arcs
  pub short : length arcs < v.graph.nodes

pub way_there : {v : Net} {f : Forest} {first last : ℕ} {arcs : List ℕ} → Lawful v → Passable v f first last arcs → WayThere v first last arcs
way_there {v = v} {first = first} {arcs = arcs} l way =
    let g = v.graph in
    let (x, least) = smallest (v.terminal Source first) (map v.residual arcs ++ v.terminal Sink (last_node g first arcs) ∷ []) in
    let h = way.augmenting x least in
    record {
      first_there = h.there;
      last_there = rw (← way.to) (last_there g first arcs l.graph h.there h.chain);
      arcs_there = chain_there g first arcs h.chain;
      short = omega (arith, few_words v (record { amount = x; first = first; arcs = arcs }) l h);
    }
