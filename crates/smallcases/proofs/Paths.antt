-- The only path of a network of one node, and a trail too short for a path that is left.
use Rattle.std.proofs.Common.{◌≡◌, ℕ, zero, ◌+◌, ◌<◌, Bool, true, false, ◌&&◌, ltb, eqb, List, [], ◌∷◌, None, sym, refl, ◌∙◌, subst, subst₂, arith}
use Rattle.std.proofs.ByRecursion.{all-has}
use Rattle.std.proofs.lemmas.Bool.{and_parts, ltb-true, eqb-true, false≢true}
use Rattle.std.specs.List.{AllByRecursion}
use Rattle.network.specs.declared.terminal.Terminal.TheVariants.{Source, Sink}
use Rattle.network.specs.declared.mark.Mark.{Mark}
use Rattle.network.specs.Nets.{Graph, Net, Lawful}
use Rattle.network.specs.Cuts.{CheapestCost}
use Rattle.network.specs.Paths.{Path, Chain, on_the_way, Augmenting, carried}
use Rattle.search.specs.Trails.{node_path}
use Rattle.network.proofs.Lists.{distinct_one}
use Rattle.network.proofs.Carrying.{path_lowers}
use Rattle.network.proofs.Duality.{path_left}
use Rattle.smallcases.specs.Cases.{Besides, OnlyPath, Also}
use Rattle.smallcases.specs.Cases.Besides.{nothing_else, no_path, only_path, short_trail}
use Rattle.smallcases.proofs.Codes.{FewCodes}
use Rattle.smallcases.proofs.Judging.{Judged, judged_cost}
use Rattle.smallcases.proofs.Running.{pauses_at_once, finishes_at_once, finishes}

-- v has one node and no arc, and x can be sent to the node and from it
record OneNode (v : Net) (x : ℕ) : Type 0 where
  nodes : v.graph.nodes ≡ 1
  no_arc : (a : ℕ) → v.graph.ends a ≡ None
  source : v.terminal Source 0 ≡ x
  sink : v.terminal Sink 0 ≡ x
  some : 0 < x

node_augmenting : (v : Net) (x : ℕ) → OneNode v x → Augmenting v (node_path 0 x)
node_augmenting v x one = record {
  there = omega (arith, one.nodes);
  chain = tt;
  distinct = distinct_one 0;
  positive = (omega (arith, one.source, one.some), (omega (arith, one.sink, one.some), tt));
  amount = record { among = (0, omega arith, λ d. one.source); least = (omega (arith, one.source), (omega (arith, one.sink), tt)) };
}

-- where there is no arc, a chain has none
no_chain : (g : Graph) (u : ℕ) (arcs : List ℕ) → ((a : ℕ) → g.ends a ≡ None) → Chain g u arcs → arcs ≡ []
no_chain g u [] none c = refl
no_chain g u (a ∷ more) none (e, is, _, _) = cc (none a)

node_only : (v : Net) (x : ℕ) (p : Path) → OneNode v x → Augmenting v p → p ≡ node_path 0 x
node_only v x p one h =
    let first : p.first ≡ 0 = omega (arith, h.there, one.nodes) in
    let arcs = no_chain v.graph p.first p.arcs one.no_arc h.chain in
    let all : AllByRecursion (λ r. r ≡ x) (on_the_way v p.first p.arcs) = subst₂ (λ u more. AllByRecursion (λ r. r ≡ x) (on_the_way v u more)) (sym first) (sym arcs) (one.source, (one.sink, tt)) in
    let amount = all-has (λ r. r ≡ x) (on_the_way v p.first p.arcs) p.amount all h.amount.among in
    λ i. record { amount = amount i; first = first i; arcs = arcs i }

-- a path of the cheapest cost is the last
last_path : (v : Net) (p : Path) → Lawful v → CheapestCost v p.amount → Augmenting v p → (q : Path) → Augmenting (carried v p) q → ⊥
last_path v p l (X, cheapest, is) h q left =
    let moved = path_lowers v p l h in
    (path_left (carried v p) moved.lawful).0 (q, left) X (omega (arith, moved.costs X))

one_node : (v : Net) (x : ℕ) → Lawful v → CheapestCost v x → OneNode v x → OnlyPath v (0 ∷ x ∷ 0 ∷ [])
one_node v x l least one =
    let h = node_augmenting v x one in
    let only : (p : Path) → Augmenting v p → p ≡ node_path 0 x = λ p. node_only v x p one in
    let last = last_path v (node_path 0 x) l least h in
    record {
      path = node_path 0 x;
      words_are = refl;
      augmenting = h;
      only = only;
      last = last;
      runs = finishes v (node_path 0 x) h only last;
    }

-- whether x is the cheapest cost c of a network of one node with no code below k, and all that can be sent there
abbrev pub one_node_test : Net → ℕ → ℕ → ℕ → Bool
one_node_test v k c x = (eqb v.graph.nodes 1 && eqb k 0) && ((eqb x c && ltb 0 x) && (eqb (v.terminal Source 0) x && eqb (v.terminal Sink 0) x))

abbrev pub only_path_test : Net → ℕ → ℕ → List ℕ → Bool
only_path_test v k c (zero ∷ x ∷ zero ∷ []) = one_node_test v k c x
only_path_test v k c _ = false

-- whether what is said besides holds of v, whose codes are below k and whose cheapest cost is c
abbrev pub also_test : Net → ℕ → ℕ → Besides → Bool
also_test v k c nothing_else = true
also_test v k c no_path = eqb c 0
also_test v k c (only_path words) = only_path_test v k c words
also_test v k c (short_trail words) = ltb 0 c && ltb words (v.graph.nodes + 2)

one_node_by_test : (v : Net) (k c x : ℕ) → FewCodes v k → CheapestCost v c → one_node_test v k c x ≡ true → OnlyPath v (0 ∷ x ∷ 0 ∷ [])
one_node_by_test v k c x few least h =
    let (alone, rest) = and_parts (eqb v.graph.nodes 1 && eqb k 0) ((eqb x c && ltb 0 x) && (eqb (v.terminal Source 0) x && eqb (v.terminal Sink 0) x)) h in
    let (nodes, codes) = and_parts (eqb v.graph.nodes 1) (eqb k 0) alone in
    let (amount, ends) = and_parts (eqb x c && ltb 0 x) (eqb (v.terminal Source 0) x && eqb (v.terminal Sink 0) x) rest in
    let (cheapest, some) = and_parts (eqb x c) (ltb 0 x) amount in
    let (source, sink) = and_parts (eqb (v.terminal Source 0) x) (eqb (v.terminal Sink 0) x) ends in
    one_node v x few.lawful (subst (CheapestCost v) (sym (eqb-true x c cheapest)) least) (record {
      nodes = eqb-true v.graph.nodes 1 nodes;
      no_arc = λ a. few.none a (omega (arith, eqb-true k 0 codes));
      source = eqb-true (v.terminal Source 0) x source;
      sink = eqb-true (v.terminal Sink 0) x sink;
      some = ltb-true 0 x some;
    })

only_path_by_test : (v : Net) (k c : ℕ) (words : List ℕ) → FewCodes v k → CheapestCost v c → only_path_test v k c words ≡ true → OnlyPath v words
only_path_by_test v k c (zero ∷ x ∷ zero ∷ []) few least h = one_node_by_test v k c x few least h
only_path_by_test v k c _ few least h = absurd (false≢true h)

pub also_by_test : (v : Net) (k c : ℕ) (marks : List Mark) (b : Besides) → FewCodes v k → Judged v c marks → also_test v k c b ≡ true → Also v b
also_by_test v k c marks nothing_else few j h = tt
also_by_test v k c marks no_path few j h =
    let free : c ≡ 0 = eqb-true c 0 h in
    let (X, _, is) = judged_cost v c marks j in
    let none : (p : Path) → Augmenting v p → ⊥ = λ p left. (path_left v few.lawful).0 (p, left) X (is ∙ free) in
    record { none = none; runs = finishes_at_once v none }
also_by_test v k c marks (only_path words) few j h = only_path_by_test v k c words few (judged_cost v c marks j) h
also_by_test v k c marks (short_trail words) few j h =
    let (some, short) = and_parts (ltb 0 c) (ltb words (v.graph.nodes + 2)) h in
    let left = (path_left v few.lawful).1 (λ X free. omega (arith, j.least X, ltb-true 0 c some)) in
    let less : words < v.graph.nodes + 2 = ltb-true words (v.graph.nodes + 2) short in
    record {
      left = left;
      few = less;
      runs = pauses_at_once v words left less;
    }
