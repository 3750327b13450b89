-- What a network means: a value, and the laws that every network keeps.
use Rattle.std.specs.Prelude.{◌≡◌, ℕ, ◌+◌, ◌-◌, ◌^◌, ◌<◌, ◌≤◌, cond, List, Some, Option, ◌==◌, ◌≢◌}
use Rattle.std.specs.List.{slice_get}
use Rattle.std.specs.Option.{unwrap_or}
use Rattle.network.specs.declared.terminal.Terminal.{Terminal}
use Rattle.network.specs.declared.terminal.Terminal.TheVariants.{Source, Sink}

-- an arc's two nodes, and the code of its reverse arc
pub record Ends : Type 0 where
  pub tail : ℕ
  pub head : ℕ
  pub reverse : ℕ

-- the ends of the reverse of arc a, which has the ends e
abbrev pub reversed : ℕ → Ends → Ends
reversed a e = record { tail = e.head; head = e.tail; reverse = a }

-- what never changes of a network
pub record Graph : Type 0 where
  pub nodes : ℕ
  -- a node's arcs by place, the first at place 0
  pub arcs : ℕ → List ℕ
  -- none where no arc has the code
  pub ends : ℕ → Option Ends

pub record Net : Type 0 where
  pub graph : Graph
  -- what can still be sent from the source to a node, and from a node to the sink
  pub terminal : Terminal → ℕ → ℕ
  -- what can still be sent along an arc
  pub residual : ℕ → ℕ

-- no number stands at two places
abbrev pub Distinct : List ℕ → Type 0
Distinct xs = (j k x : ℕ) → slice_get xs j ≡ Some x → slice_get xs k ≡ Some x → j ≡ k

pub record LawfulGraph (g : Graph) : Type 0 where
  pub few_nodes : g.nodes ≤ 4096
  pub small_code : (a : ℕ) (e : Ends) → g.ends a ≡ Some e → a < 32768
  pub tail_there : (a : ℕ) (e : Ends) → g.ends a ≡ Some e → e.tail < g.nodes
  -- the reverse of an arc is another arc, with the ends exchanged, and its reverse is the arc
  pub other : (a : ℕ) (e : Ends) → g.ends a ≡ Some e → e.reverse ≢ a
  pub back : (a : ℕ) (e : Ends) → g.ends a ≡ Some e → g.ends e.reverse ≡ Some (reversed a e)
  -- each arc stands at one place and no other, a place of its tail, and nothing but arcs stands at places
  pub own : (u k a : ℕ) → u < g.nodes → slice_get (g.arcs u) k ≡ Some a → (e : Ends) × (g.ends a ≡ Some e) × (e.tail ≡ u)
  pub placed : (a : ℕ) (e : Ends) → g.ends a ≡ Some e → (k : ℕ) × (slice_get (g.arcs e.tail) k ≡ Some a)
  pub once : (u : ℕ) → u < g.nodes → Distinct (g.arcs u)

pub record Lawful (v : Net) : Type 0 where
  pub graph : LawfulGraph v.graph
  -- every residual is at most 2^40, and so is the sum of those of an arc and its reverse
  pub small : (t : Terminal) (u : ℕ) → u < v.graph.nodes → v.terminal t u ≤ 2 ^ 40
  pub small_pair : (a : ℕ) (e : Ends) → v.graph.ends a ≡ Some e → v.residual a + v.residual e.reverse ≤ 2 ^ 40

-- f with y at x
abbrev pub at : {A : Type 0} → (ℕ → A) → ℕ → A → ℕ → A
at f x y k = cond (k == x) y (f k)

-- f with y at the terminal t
abbrev pub at_terminal : {A : Type 0} → (Terminal → A) → Terminal → A → Terminal → A
at_terminal f Source y Source = y
at_terminal f Source y Sink = f Sink
at_terminal f Sink y Source = f Source
at_terminal f Sink y Sink = y

-- v with another terminal residual of one node
abbrev pub with_terminal : Net → Terminal → ℕ → ℕ → Net
with_terminal v t u x = record {
  graph = v.graph;
  terminal = at_terminal v.terminal t (at (v.terminal t) u x);
  residual = v.residual;
}

-- v with another residual of one arc
abbrev pub with_residual : Net → ℕ → ℕ → Net
with_residual v a x = record {
  graph = v.graph;
  terminal = v.terminal;
  residual = at v.residual a x;
}

-- a terminal residual lowered by x
abbrev pub taken : Net → Terminal → ℕ → ℕ → Net
taken v t u x = with_terminal v t u (v.terminal t u - x)

-- the ends of the arc of a code; where there is no such arc, ends that mean nothing
abbrev pub ends_of : Graph → ℕ → Ends
ends_of g a = unwrap_or (g.ends a) (record { tail = 0; head = 0; reverse = a })

abbrev pub reverse_of : Graph → ℕ → ℕ
reverse_of g a = (ends_of g a).reverse

-- an arc's residual lowered by x, and that of its reverse raised by x
abbrev pub shifted : Net → ℕ → ℕ → Net
shifted v a x = with_residual (with_residual v a (v.residual a - x)) (reverse_of v.graph a) (v.residual (reverse_of v.graph a) + x)
