-- Augmenting paths: what they are, carrying them out, and the words that they take in a trail.
use Rattle.std.specs.Prelude.{◌≡◌, ℕ, ◌+◌, ◌<◌, ◌≤◌, List, [], ◌∷◌, ◌++◌, map, length, Some}
use Rattle.std.specs.List.{ContainsAt, AllByRecursion}
use Rattle.network.specs.declared.terminal.Terminal.TheVariants.{Source, Sink}
use Rattle.network.specs.Nets.{Ends, Graph, Net, Distinct, ends_of, taken, shifted}

-- a first node, a chain of arcs from it, and the amount that is sent along it
pub record Path : Type 0 where
  pub amount : ℕ
  pub first : ℕ
  pub arcs : List ℕ

-- arcs of g, the first from u and each from where the one before it ends
abbrev pub Chain : Graph → ℕ → List ℕ → Type 0
Chain g u [] = Unit {0}
Chain g u (a ∷ more) = (e : Ends) × (g.ends a ≡ Some e) × (e.tail ≡ u) × Chain g e.head more

-- the nodes that a chain from u passes, both its ends with them
abbrev pub passed : Graph → ℕ → List ℕ → List ℕ
passed g u [] = u ∷ []
passed g u (a ∷ more) = u ∷ passed g (ends_of g a).head more

-- the node where a chain from u ends
abbrev pub last_node : Graph → ℕ → List ℕ → ℕ
last_node g u [] = u
last_node g u (a ∷ more) = last_node g (ends_of g a).head more

-- the residuals on the way: the first node's from the source, the arcs', and the last node's to the sink
abbrev pub on_the_way : Net → ℕ → List ℕ → List ℕ
on_the_way v u arcs = v.terminal Source u ∷ (map v.residual arcs ++ v.terminal Sink (last_node v.graph u arcs) ∷ [])

-- x is the smallest of rs
pub record Smallest (x : ℕ) (rs : List ℕ) : Type 0 where
  pub among : ContainsAt rs x
  pub least : AllByRecursion (λ r. x ≤ r) rs

pub record Augmenting (v : Net) (p : Path) : Type 0 where
  pub there : p.first < v.graph.nodes
  pub chain : Chain v.graph p.first p.arcs
  pub distinct : Distinct (passed v.graph p.first p.arcs)
  pub positive : AllByRecursion (λ r. 0 < r) (on_the_way v p.first p.arcs)
  pub amount : Smallest p.amount (on_the_way v p.first p.arcs)

-- v with x shifted along each arc
abbrev pub shifted_along : Net → List ℕ → ℕ → Net
shifted_along v [] x = v
shifted_along v (a ∷ more) x = shifted_along (shifted v a x) more x

-- v with a path carried out: its amount taken at both ends and shifted along each arc
abbrev pub carried : Net → Path → Net
carried v p = taken (shifted_along (taken v Source p.first p.amount) p.arcs p.amount) Sink (last_node v.graph p.first p.arcs) p.amount

-- each is an augmenting path on what those before it left
abbrev pub Successive : Net → List Path → Type 0
Successive v [] = Unit {0}
Successive v (p ∷ ps) = Augmenting v p × Successive (carried v p) ps

abbrev pub carried_all : Net → List Path → Net
carried_all v [] = v
carried_all v (p ∷ ps) = carried_all (carried v p) ps

-- the sum of the amounts
abbrev pub gain : List Path → ℕ
gain [] = 0
gain (p ∷ ps) = p.amount + gain ps

-- a path in a trail: how many arcs, the amount, the first node, the arcs' codes
abbrev pub path_words : Path → List ℕ
path_words p = length p.arcs ∷ p.amount ∷ p.first ∷ p.arcs

-- paths in a trail, one after another
abbrev pub trail_words : List Path → List ℕ
trail_words [] = []
trail_words (p ∷ ps) = path_words p ++ trail_words ps
