-- What the search asks of a network: a node's neighbours by place, as the tree of a terminal meets them.
use Rattle.std.specs.Prelude.{◌≡◌, ℕ, ◌+◌, ◌-◌, ◌<◌, length, Some, None, Option}
use Rattle.std.specs.Iterator.{Count, at_most}
use Rattle.std.specs.List.{slice_get}
use Rattle.network.specs.declared.terminal.Terminal.{Terminal}
use Rattle.network.specs.declared.terminal.Terminal.TheVariants.{Source, Sink}
use Rattle.network.specs.Nets.{Ends, Net}
use Rattle.network.specs.Sides.{near, far}
use Rattle.search.specs.declared.reading.Neighbour.{Neighbour}
use Rattle.search.specs.declared.reading.Neighbourhood.{Neighbourhood}

-- the one of two arcs between u and a neighbour that stands at a place of u
abbrev pub placed_one : Terminal → Neighbour → ℕ
placed_one Source h = h.outward
placed_one Sink h = h.inward

-- h tells the neighbour at a place of u: the arc by which the tree of t grows from u to it, and the reverse, by which it grows
-- from it to u; and what can be sent along each
pub record Beside (v : Net) (t : Terminal) (u k : ℕ) (h : Neighbour) : Type 0 where
  pub ends : Ends
  pub out : v.graph.ends h.outward ≡ Some ends
  pub back : ends.reverse ≡ h.inward
  pub from : near t ends ≡ u
  pub to : far t ends ≡ h.node
  pub place : slice_get (v.graph.arcs u) k ≡ Some (placed_one t h)
  pub sends : v.residual h.outward ≡ h.outward_residual
  pub takes : v.residual h.inward ≡ h.inward_residual

-- the neighbour at a place, or none past the last place
abbrev pub Neighbours : Net → Terminal → ℕ → ℕ → Option Neighbour → Type 0
Neighbours v t u k None = slice_get (v.graph.arcs u) k ≡ None
Neighbours v t u k (Some h) = Beside v t u k h

-- s tells the neighbours of u in the network w, and has come to place k
pub record Stands {N : Type 0} (w : N) (t : Terminal) (u k : ℕ) (s : Neighbourhood N) : Type 0 where
  pub net : s.net.now ≡ w
  pub terminal : s.terminal ≡ t
  pub node : s.node ≡ u
  pub place : s.place ≡ k

-- the node of s is there
abbrev pub HasNode : {N : Type 0} → (N → Net) → Neighbourhood N → Type 0
HasNode value s = s.node < (value s.net.now).graph.nodes

-- the places from that of s on
abbrev pub places_left : {N : Type 0} → (N → Net) → Neighbourhood N → Count
places_left value s = at_most (length ((value s.net.now).graph.arcs s.node) - s.place)

-- the place after one at which a neighbour stands
abbrev pub next_place : Option Neighbour → ℕ → ℕ
next_place None k = k
next_place (Some _) k = k + 1

-- s gave the neighbour at its place, or none past the last, and stands at the next place
abbrev pub StepsOn : {N : Type 0} → (N → Net) → Neighbourhood N → Option Neighbour → Neighbourhood N → Type 0
StepsOn value s r s' = Neighbours (value s.net.now) s.terminal s.node s.place r × Stands s.net.now s.terminal s.node (next_place r s.place) s'
