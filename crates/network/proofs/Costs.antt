-- How the cost of a selection moves with a take and with a shift, told without subtraction.
use Rattle.std.proofs.Common.{◌≡◌, ℕ, ◌+◌, ◌-◌, ◌<◌, ◌≤◌, Bool, cond, not, Some, None, Option, sym, refl, ap, subst, arith}
use Rattle.std.proofs.lemmas.Bool.{cases_Bool}
use Rattle.std.proofs.lemmas.Bool.Decides.{nat_tests}
use Rattle.network.specs.declared.terminal.Terminal.{Terminal}
use Rattle.network.specs.declared.terminal.Terminal.TheVariants.{Source, Sink}
use Rattle.network.specs.Nets.{Ends, Net, LawfulGraph, Lawful, reversed, with_terminal, with_residual, taken, shifted}
use Rattle.network.specs.Cuts.{Selection, node_cost, leaves, arc_cost, cost}
use Rattle.network.proofs.Sums.{sum_same, sum_differs}
use Rattle.network.proofs.Laws.{reverse_is, head_there}

-- x where b holds, else 0
abbrev pub when : Bool → ℕ → ℕ
when b x = cond b x 0

-- whether X has a node on the other side than the terminal, and so pays its residual there
abbrev pub cut_off : Terminal → Bool → Bool
cut_off Source b = not b
cut_off Sink b = b

-- another residual of one arc
residual_cost : (v : Net) (X : Selection) (a x : ℕ) (e : Ends) → a < 32768 → v.graph.ends a ≡ Some e → cost (with_residual v a x) X + when (leaves X (Some e)) (v.residual a) ≡ cost v X + when (leaves X (Some e)) x
residual_cost v X a x e small is =
    let other = sum_differs 32768 a (arc_cost (with_residual v a x) X) (arc_cost v X) small (λ k far. grind (arith, nat_tests)) in
    let old : arc_cost v X a ≡ when (leaves X (Some e)) (v.residual a) = rw is refl in
    let new : arc_cost (with_residual v a x) X a ≡ when (leaves X (Some e)) x = rw is (grind (arith, nat_tests)) in
    omega arith

-- another terminal residual of one node
terminal_cost : (v : Net) (X : Selection) (t : Terminal) (u x : ℕ) → u < v.graph.nodes → cost (with_terminal v t u x) X + when (cut_off t (X u)) (v.terminal t u) ≡ cost v X + when (cut_off t (X u)) x
terminal_cost v X t u x there =
    let other = sum_differs v.graph.nodes u (node_cost (with_terminal v t u x) X) (node_cost v X) there (λ k far. elsewhere t k far) in
    omega (arith, here t)
  where
    elsewhere : (t : Terminal) (k : ℕ) → (k ≡ u → ⊥) → node_cost (with_terminal v t u x) X k ≡ node_cost v X k
    elsewhere Source k far = grind (arith, nat_tests)
    elsewhere Sink k far = grind (arith, nat_tests)

    here : (t : Terminal) → node_cost (with_terminal v t u x) X u + when (cut_off t (X u)) (v.terminal t u) ≡ node_cost v X u + when (cut_off t (X u)) x
    here Source = grind (arith, nat_tests, cases_Bool (X u))
    here Sink = grind (arith, nat_tests, cases_Bool (X u))

-- a take lowers the costs of the selections that have the node on the terminal's other side
pub taken_cost : (v : Net) (X : Selection) (t : Terminal) (u x : ℕ) → u < v.graph.nodes → x ≤ v.terminal t u → cost (taken v t u x) X + when (cut_off t (X u)) x ≡ cost v X
taken_cost v X t u x there less =
    let moved = terminal_cost v X t u (v.terminal t u - x) there in
    grind (arith, cases_Bool (cut_off t (X u)))

-- a shift lowers the costs of the selections that the arc leaves, and raises those of the selections that it enters
pub shifted_cost : (v : Net) (X : Selection) (a x : ℕ) (e : Ends) → Lawful v → v.graph.ends a ≡ Some e → x ≤ v.residual a → cost (shifted v a x) X + when (X e.tail) x ≡ cost v X + when (X e.head) x
shifted_cost v X a x e l is less =
    let b = e.reverse in
    let back = l.graph.back a e is in
    let apart = l.graph.other a e is in
    let lowered = with_residual v a (v.residual a - x) in
    let first = residual_cost v X a (v.residual a - x) e (l.graph.small_code a e is) is in
    let second = residual_cost lowered X b (v.residual b + x) (reversed a e) (l.graph.small_code b (reversed a e) back) back in
    let kept : lowered.residual b ≡ v.residual b = grind (arith, nat_tests) in
    let moved : cost (with_residual lowered b (v.residual b + x)) X + when (X e.tail) x ≡ cost v X + when (X e.head) x = grind (arith, cases_Bool (X e.tail), cases_Bool (X e.head)) in
    subst (λ r. cost (with_residual lowered r (v.residual r + x)) X + when (X e.tail) x ≡ cost v X + when (X e.head) x) (sym (reverse_is v.graph a e is)) moved

-- a selection's cost is told by the nodes that are there
pub cost_same : (v : Net) (X Y : Selection) → LawfulGraph v.graph → ((u : ℕ) → u < v.graph.nodes → X u ≡ Y u) → cost v X ≡ cost v Y
cost_same v X Y l same =
    let nodes = sum_same v.graph.nodes (node_cost v X) (node_cost v Y) (λ u there. ap (λ b. cond b (v.terminal Sink u) (v.terminal Source u)) (same u there)) in
    let arcs = sum_same 32768 (arc_cost v X) (arc_cost v Y) (λ a _. ap (λ b. cond b (v.residual a) 0) (each_arc a (v.graph.ends a) refl)) in
    omega arith
  where
    each_arc : (a : ℕ) (o : Option Ends) → v.graph.ends a ≡ o → leaves X o ≡ leaves Y o
    each_arc a None is = refl
    each_arc a (Some e) is = rw (same e.tail (l.tail_there a e is), same e.head (head_there v.graph a e l is))
