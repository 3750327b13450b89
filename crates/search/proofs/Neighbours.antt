-- A node's neighbours, one place after another.
use Rattle.std.proofs.Common.{◌≡◌, ℕ, ◌+◌, ◌^◌, ◌<◌, Some, None, Option, length, sym, refl, ap, subst, ◌∙◌, arith}
use Rattle.std.specs.List.{slice_get}
use Rattle.std.specs.Option.{option_map}
use Rattle.network.specs.declared.terminal.Terminal.{Terminal}
use Rattle.network.specs.declared.terminal.Terminal.TheVariants.{Source, Sink}
use Rattle.network.specs.Nets.{Ends, Net, Lawful, reversed, Graph, LawfulGraph}
use Rattle.network.specs.Sides.{near}
use Rattle.network.specs.declared.arc.Arc.{Arc}
use Rattle.network.specs.Answers.{arc_with, whole}
use Rattle.network.proofs.Lists.{nth_inside}
use Rattle.network.proofs.Laws.{one_ends, near_there, near_reversed, far_reversed}
use Rattle.trees.proofs.Places.{standing, Through, through_next}
use Rattle.std.specs.Iterator.{MakesProgress}
use Rattle.search.specs.declared.reading.Neighbour.{Neighbour}
use Rattle.search.specs.declared.reading.Neighbourhood.{Neighbourhood}
use Rattle.search.specs.Adoptions.{Inward}
use Rattle.search.specs.Readings.{Beside, placed_one, Stands, StepsOn, HasNode, places_left}

-- what an arc that is told at a place says of the network
pub record Tells (v : Net) (placed : Option ℕ) (h : Arc) : Type 0 where
  pub at : placed ≡ Some h.code
  pub ends : Ends
  pub there : v.graph.ends h.code ≡ Some ends
  pub head : ends.head ≡ h.head
  pub reverse : ends.reverse ≡ h.reverse
  pub residual : v.residual h.code ≡ h.residual
  pub back : v.residual h.reverse ≡ h.back

pub told_there : (v : Net) (placed : Option ℕ) (h : Arc) → whole v placed ≡ Some h → Tells v placed h
told_there v None h is = cc
told_there v (Some a) h is = by (v.graph.ends a) refl is
  where
    by : (o : Option Ends) → v.graph.ends a ≡ o → option_map (arc_with v a) o ≡ Some h → Tells v (Some a) h
    by None at same = cc
    by (Some e) at same =
        let arc : arc_with v a e ≡ h = cc in
        subst (Tells v (Some a)) arc (record { at = refl; ends = e; there = at; head = refl; reverse = refl; residual = refl; back = refl })

-- the neighbour that it leads to
abbrev pub met_by : Terminal → Arc → Neighbour
met_by Source h = record { node = h.head; outward = h.code; inward = h.reverse; outward_residual = h.residual; inward_residual = h.back }
met_by Sink h = record { node = h.head; outward = h.reverse; inward = h.code; outward_residual = h.back; inward_residual = h.residual }

pub beside : (v : Net) (t : Terminal) (u k : ℕ) (h : Arc) → Lawful v → u < v.graph.nodes → whole v (slice_get (v.graph.arcs u) k) ≡ Some h → Beside v t u k (met_by t h)
beside v t u k h l there told =
    let s = told_there v (slice_get (v.graph.arcs u) k) h told in
    let (e, own, from) = l.graph.own u k h.code there s.at in
    by t s (ap (λ (e : Ends). e.tail) (one_ends v.graph h.code s.ends e s.there own) ∙ from)
  where
    by : (t : Terminal) (s : Tells v (slice_get (v.graph.arcs u) k) h) → s.ends.tail ≡ u → Beside v t u k (met_by t h)
    by Source s from = record { ends = s.ends; out = s.there; back = s.reverse; from = from; to = s.head; place = s.at; sends = s.residual; takes = s.back }
    by Sink s from = record { ends = reversed h.code s.ends; out = ap v.graph.ends (sym s.reverse) ∙ l.graph.back h.code s.ends s.there; back = refl; from = from; to = s.head; place = s.at; sends = s.back; takes = s.residual }

-- the arc that leads back from a neighbour, as the tree grows from it
pub beside_inward : {v : Net} {t : Terminal} {u k : ℕ} {h : Neighbour} → Lawful v → Beside v t u k h → Inward v t u h
beside_inward {v = v} {t = t} {h = h} l b =
    let a = h.outward in (
      reversed a b.ends,
      ap v.graph.ends (sym b.back) ∙ l.graph.back a b.ends b.out,
      near_reversed t a b.ends ∙ b.to,
      far_reversed t a b.ends ∙ b.from,
      b.takes,
    )

pub inward_there : (v : Net) (t : Terminal) (u : ℕ) (h : Neighbour) → Lawful v → Inward v t u h → h.node < v.graph.nodes
inward_there v t u h l (e, is, from, to, takes) = rw (← from) (near_there v.graph t h.inward e l.graph is)

-- the arc that stands at the neighbour's place
placed_standing : (v : Net) (t : Terminal) (u k : ℕ) (h : Neighbour) (b : Beside v t u k h) → placed_one t h ≡ standing t h.outward b.ends
placed_standing v Source u k h b = refl
placed_standing v Sink u k h b = sym b.back

-- a record holds the number of any arc, and of its ends
pub few_numbers : (g : Graph) (t : Terminal) (a : ℕ) (e : Ends) → LawfulGraph g → g.ends a ≡ Some e → (a < 2 ^ 16) × (near t e < 2 ^ 16)
few_numbers g t a e l is = (omega (arith, l.small_code a e is), omega (arith, near_there g t a e l is, l.few_nodes))

-- one neighbour more
pub through_more : (v : Net) (t : Terminal) (u k : ℕ) (h : Neighbour) (P : ℕ → Ends → Type 0) → Lawful v → (b : Beside v t u k h) → Through v.graph t u k P → P h.outward b.ends → Through v.graph t u (k + 1) P
through_more v t u k h P l b before this = through_next v.graph t u k h.outward b.ends P l.graph b.out (b.place ∙ ap (λ x. Some x) (placed_standing v t u k h b)) before this

-- what the iterator tells, where it has come to place k
pub met : {N : Type 0} (value : N → Net) {w : N} {t : Terminal} {u k : ℕ} {s s' : Neighbourhood N} {h : Neighbour} → Stands w t u k s → StepsOn value s (Some h) s' → Beside (value w) t u k h × Stands w t u (k + 1) s'
met value at (b, on) = (
  rw (← at.net, ← at.terminal, ← at.node, ← at.place) b,
  record { net = on.net ∙ at.net; terminal = on.terminal ∙ at.terminal; node = on.node ∙ at.node; place = cc },
)

pub past_last : {N : Type 0} (value : N → Net) {w : N} {t : Terminal} {u k : ℕ} {s s' : Neighbourhood N} → Stands w t u k s → StepsOn value s None s' → slice_get ((value w).graph.arcs u) k ≡ None
past_last value at (past, _) = rw (← at.net, ← at.node, ← at.place) past

-- an arc stands at its place
pub place_inside : (v : Net) (u k : ℕ) (h : Arc) → whole v (slice_get (v.graph.arcs u) k) ≡ Some h → k < length (v.graph.arcs u)
place_inside v u k h told = nth_inside (v.graph.arcs u) k h.code (told_there v (slice_get (v.graph.arcs u) k) h told).at

-- a neighbour that was told: fewer places are left
pub goes_on : {N : Type 0} (value : N → Net) (s : Neighbourhood N) (h : Neighbour) (a : Arc) → HasNode value s → whole (value s.net.now) (slice_get ((value s.net.now).graph.arcs s.node) s.place) ≡ Some a → MakesProgress (HasNode value) (places_left value) s (Some h) (record { net = s.net; terminal = s.terminal; node = s.node; place = s.place + 1 })
goes_on value s h a there told =
    let inside = place_inside (value s.net.now) s.node s.place a told in
    record { on = λ _. (there, tt, omega arith); keeps = there; rests = λ _. tt }
