-- A path is left, or a selection costs nothing: the nodes that are reached from the source grow until the one or the other is seen.
use Rattle.std.proofs.Common.{◌≡◌, ℕ, zero, suc, ◌+◌, ◌<◌, ◌≤◌, Bool, true, false, cond, ltb, ◌⊎◌, List, [], ◌∷◌, ◌++◌, map, Some, None, Option, sym, refl, ap, ◌∙◌, subst, inl, inr, ⊎_elim, arith}
use Rattle.std.proofs.ByRecursion.{All-push, All-weaker}
use Rattle.std.proofs.lemmas.List.{map-append}
use Rattle.std.proofs.lemmas.Bool.{cases_eq, cases_lt, cases_Bool, true≢false, lt-ltb, ltb-true, ne_eqb}
use Rattle.std.proofs.lemmas.Bool.Decides.{nat_tests}
use Rattle.std.specs.List.{AllByRecursion}
use Rattle.network.specs.declared.terminal.Terminal.TheVariants.{Source, Sink}
use Rattle.network.specs.Nets.{Ends, Net, Lawful, Distinct, at}
use Rattle.network.specs.Cuts.{Selection, sum_below, node_cost, arc_cost, cost}
use Rattle.network.specs.Paths.{Path, Chain, passed, last_node, Smallest, Augmenting}
use Rattle.network.proofs.Sums.{sum_differs, sum_zero}
use Rattle.network.proofs.Lists.{distinct_push, distinct_one, all_nth}
use Rattle.network.proofs.Laws.{ends_are, head_there}
use Rattle.network.proofs.Chains.{chain_push, passed_push, last_push}

-- a number below n at which f is positive, or f is 0 at each
find : (n : ℕ) (f : ℕ → ℕ) → ((k : ℕ) × (k < n) × (0 < f k)) ⊎ ((k : ℕ) → k < n → f k ≡ 0)
find zero f = inr (λ k below. absurd (omega arith))
find (suc n) f = ⊎_elim
    (λ (here : 0 < f n). inl (n, omega arith, here))
    (λ (no : f n ≤ 0). ⊎_elim
    (λ ((k, below, some) : (k : ℕ) × (k < n) × (0 < f k)). inl (k, omega arith, some))
    (λ (none : (k : ℕ) → k < n → f k ≡ 0). inr (λ k below. grind (arith, none k)))
    (find n f))
    (cases_lt 0 (f n))

pub smallest : (x : ℕ) (xs : List ℕ) → (m : ℕ) × Smallest m (x ∷ xs)
smallest x [] = (x, record { among = (0, omega arith, λ d. refl); least = (omega arith, tt) })
smallest x (y ∷ ys) =
    let (m, s) = smallest y ys in
    ⊎_elim
    (λ (less : x < m). (x, record { among = (0, omega arith, λ d. refl); least = (omega arith, All-weaker (λ r. m ≤ r) (λ r. x ≤ r) (λ r h. omega arith) (y ∷ ys) s.least) }))
    (λ (more : m ≤ x). let (k, below, is) = s.among in (m, record { among = (suc k, omega arith, is); least = (more, s.least) }))
    (cases_lt x m)

-- how u was reached: a chain of positive residuals from the source, through distinct nodes of R
record Trace (v : Net) (R : Selection) (u : ℕ) : Type 0 where
  first : ℕ
  arcs : List ℕ
  there : first < v.graph.nodes
  source : 0 < v.terminal Source first
  chain : Chain v.graph first arcs
  distinct : Distinct (passed v.graph first arcs)
  positive : AllByRecursion (λ r. 0 < r) (map v.residual arcs)
  to : last_node v.graph first arcs ≡ u
  inside : AllByRecursion (λ w. R w ≡ true) (passed v.graph first arcs)

-- an arc of positive residual out of R
record Exit (v : Net) (R : Selection) (a : ℕ) : Type 0 where
  ends : Ends
  is : v.graph.ends a ≡ Some ends
  positive : 0 < v.residual a
  tail : R ends.tail ≡ true
  head : R ends.head ≡ false

-- an arc that R pays for is an exit
exit_found : (v : Net) (R : Selection) (a : ℕ) → 0 < arc_cost v R a → Exit v R a
exit_found v R a some = by (v.graph.ends a) refl
  where
    by : (o : Option Ends) → v.graph.ends a ≡ o → Exit v R a
    by None is = let none = rw is at some in absurd (omega arith)
    by (Some e) is =
        let paid = rw is at some in
        record {
          ends = e;
          is = is;
          positive = grind (arith, cases_Bool (R e.tail), cases_Bool (R e.head));
          tail = grind (arith, cases_Bool (R e.tail), cases_Bool (R e.head));
          head = grind (arith, cases_Bool (R e.tail), cases_Bool (R e.head));
        }

-- R with x in it
abbrev joined : Selection → ℕ → Selection
joined R x = at R x true

joined_keeps : (R : Selection) (x w : ℕ) → R w ≡ true → joined R x w ≡ true
joined_keeps R x w on = grind (arith, nat_tests)

joined_new : (R : Selection) (x w : ℕ) → w ≡ x → joined R x w ≡ true
joined_new R x w is = grind (arith, nat_tests)

-- the trace through an exit to its head
trace_push : (v : Net) (R : Selection) (a : ℕ) (x : Exit v R a) → Trace v R x.ends.tail → Trace v (joined R x.ends.head) x.ends.head
trace_push v R a x t =
    let g = v.graph in
    let new = x.ends.head in
    let more = joined R new in
    let before = passed g t.first t.arcs in
    let head = ap (λ (e : Ends). e.head) (ends_are g a x.ends x.is) in
    let nodes : passed g t.first (t.arcs ++ a ∷ []) ≡ before ++ new ∷ [] = passed_push g t.first t.arcs a ∙ ap (λ h. before ++ h ∷ []) head in
    let kept = All-weaker (λ w. R w ≡ true) (λ w. more w ≡ true) (joined_keeps R new) before t.inside in
    record {
      first = t.first;
      arcs = t.arcs ++ a ∷ [];
      there = t.there;
      source = t.source;
      chain = chain_push g t.first t.arcs a x.ends t.chain x.is (sym t.to);
      distinct = subst Distinct (sym nodes) (distinct_push before new t.distinct (λ k on. true≢false (sym (all_nth (λ w. R w ≡ true) before k new t.inside on) ∙ x.head)));
      positive = subst (AllByRecursion (λ r. 0 < r)) (sym (map-append v.residual t.arcs (a ∷ []))) (All-push (λ r. 0 < r) (map v.residual t.arcs) (v.residual a) t.positive x.positive);
      to = last_push g t.first t.arcs a ∙ head;
      inside = subst (AllByRecursion (λ w. more w ≡ true)) (sym nodes) (All-push (λ w. more w ≡ true) before new kept (joined_new R new new refl));
    }

-- R holds the source's roots, and only nodes that were reached
record Grown (v : Net) (R : Selection) : Type 0 where
  roots : (u : ℕ) → u < v.graph.nodes → 0 < v.terminal Source u → R u ≡ true
  traces : (u : ℕ) → u < v.graph.nodes → R u ≡ true → Trace v R u

abbrev lacks : Bool → ℕ
lacks b = cond b 0 1

-- how many nodes are not in R
abbrev missing : Net → Selection → ℕ
missing v R = sum_below v.graph.nodes (λ u. lacks (R u))

-- the nodes that the source itself reaches
abbrev roots : Net → Selection
roots v u = ltb 0 (v.terminal Source u)

grown_first : (v : Net) → Grown v (roots v)
grown_first v = record {
  roots = λ u there some. lt-ltb 0 (v.terminal Source u) some;
  traces = λ u there on. record {
    first = u;
    arcs = [];
    there = there;
    source = ltb-true 0 (v.terminal Source u) on;
    chain = tt;
    distinct = distinct_one u;
    positive = tt;
    to = refl;
    inside = (on, tt);
  };
}

grown_more : (v : Net) (R : Selection) (a : ℕ) → Lawful v → (x : Exit v R a) → Grown v R → Grown v (joined R x.ends.head)
grown_more v R a l x h = record {
  roots = λ u there source. joined_keeps R new u (h.roots u there source);
  traces = λ u there joins. ⊎_elim
      (λ (same : u ≡ new). subst (Trace v (joined R new)) (sym same) (trace_push v R a x (h.traces x.ends.tail (l.graph.tail_there a x.ends x.is) x.tail)))
      (λ (far : u ≡ new → ⊥). trace_kept (h.traces u there (sym (ap (λ b. cond b true (R u)) (ne_eqb u new far)) ∙ joins)))
      (cases_eq u new);
}
  where
    new : ℕ
    new = x.ends.head

    trace_kept : {u : ℕ} → Trace v R u → Trace v (joined R new) u
    trace_kept t = record {
      first = t.first;
      arcs = t.arcs;
      there = t.there;
      source = t.source;
      chain = t.chain;
      distinct = t.distinct;
      positive = t.positive;
      to = t.to;
      inside = All-weaker (λ w. R w ≡ true) (λ w. joined R new w ≡ true) (joined_keeps R new) (passed v.graph t.first t.arcs) t.inside;
    }

-- R lacks one node fewer with the head of an exit in it
missing_less : (v : Net) (R : Selection) (a : ℕ) → Lawful v → (x : Exit v R a) → missing v (joined R x.ends.head) + 1 ≡ missing v R
missing_less v R a l x =
    let new = x.ends.head in
    let there = head_there v.graph a x.ends l.graph x.is in
    let moved = sum_differs v.graph.nodes new (λ w. lacks (joined R new w)) (λ w. lacks (R w)) there (λ w far. ap (λ b. lacks (cond b true (R w))) (ne_eqb w new far)) in
    omega (arith, ap lacks x.head, ap lacks (joined_new R new new refl))

-- the path along a trace to a node from which the sink is reached
path_found : (v : Net) (R : Selection) (u : ℕ) → 0 < v.terminal Sink u → Trace v R u → (p : Path) × Augmenting v p
path_found v R u some t =
    let sink = v.terminal Sink (last_node v.graph t.first t.arcs) in
    let inner = map v.residual t.arcs in
    let (x, s) = smallest (v.terminal Source t.first) (inner ++ sink ∷ []) in (
      record { amount = x; first = t.first; arcs = t.arcs },
      record {
        there = t.there;
        chain = t.chain;
        distinct = t.distinct;
        positive = (t.source, All-push (λ r. 0 < r) inner sink t.positive (subst (λ w. 0 < v.terminal Sink w) (sym t.to) some));
        amount = s;
      },
    )

-- a path is left, or a selection costs nothing
abbrev pub PathOrCut : Net → Type 0
PathOrCut v = ((p : Path) × Augmenting v p) ⊎ ((X : Selection) × (cost v X ≡ 0))

-- the end of the search: no arc leads out of R
path_or_cut_at : (v : Net) (R : Selection) → Grown v R → ((a : ℕ) → a < 32768 → arc_cost v R a ≡ 0) → PathOrCut v
path_or_cut_at v R h none = ⊎_elim
    (λ ((u, there, some) : (u : ℕ) × (u < v.graph.nodes) × (0 < node_cost v R u)).
    let root = h.roots u there in
    let on : R u ≡ true = grind (arith, cases_Bool (R u), root) in
    let sink : 0 < v.terminal Sink u = grind (arith, cases_Bool (R u), root) in
    inl (path_found v R u sink (h.traces u there on)))
    (λ (free : (u : ℕ) → u < v.graph.nodes → node_cost v R u ≡ 0).
    inr (R, omega (arith, sum_zero v.graph.nodes (node_cost v R) free, sum_zero 32768 (arc_cost v R) none)))
    (find v.graph.nodes (node_cost v R))

look : (v : Net) (R : Selection) → ((a : ℕ) × Exit v R a) ⊎ ((a : ℕ) → a < 32768 → arc_cost v R a ≡ 0)
look v R = ⊎_elim (λ ((a, _, some) : (a : ℕ) × (a < 32768) × (0 < arc_cost v R a)). inl (a, exit_found v R a some)) inr (find 32768 (arc_cost v R))

-- a search in which at most m nodes are missing
grow : (m : ℕ) (v : Net) (R : Selection) → Lawful v → Grown v R → missing v R ≤ m → PathOrCut v
grow zero v R l h few = ⊎_elim
    (λ ((a, x) : (a : ℕ) × Exit v R a). absurd (omega (arith, missing_less v R a l x)))
    (path_or_cut_at v R h)
    (look v R)
grow (suc m) v R l h few = ⊎_elim
    (λ ((a, x) : (a : ℕ) × Exit v R a). grow m v (joined R x.ends.head) l (grown_more v R a l x h) (omega (arith, missing_less v R a l x)))
    (path_or_cut_at v R h)
    (look v R)

pub path_or_cut : (v : Net) → Lawful v → PathOrCut v
path_or_cut v l = grow (missing v (roots v)) v (roots v) l (grown_first v) (omega arith)
