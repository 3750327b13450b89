-- From a bridge to an augmenting path: up the source's tree turned round, over the bridge, and up the sink's tree.
use Rattle.std.proofs.Common.{◌≡◌, ℕ, zero, suc, ◌+◌, ◌<◌, ◌≤◌, List, [], ◌∷◌, ◌++◌, map, reverse, length, Some, sym, refl, ap, ◌∙◌, subst, inl, inr, arith}
use mathlib.Core.List.{reverse_aux, reverse_aux-eq}
use Rattle.std.proofs.ByRecursion.{All-push, All-weaker}
use Rattle.std.proofs.lemmas.List.{length-append, length-reverse}
use Rattle.std.specs.List.{AllByRecursion, slice_get}
use Rattle.network.specs.declared.terminal.Terminal.TheVariants.{Source, Sink}
use Rattle.network.specs.Nets.{Ends, Graph, Net, Lawful, Distinct, ends_of}
use Rattle.network.specs.Paths.{Path, Chain, passed, last_node, on_the_way, Smallest, Augmenting}
use Rattle.network.proofs.Lists.{not_again, distinct_one, all_nth, distinct_cons, nth_nil}
use Rattle.network.proofs.Laws.{ends_are, head_there, near_there}
use Rattle.network.proofs.Searching.{smallest}
use Rattle.trees.specs.declared.lane.Lane.TheVariants.{Orphans}
use Rattle.trees.specs.declared.work.Parent.TheVariants.{Root}
use Rattle.trees.specs.Forests.{Forest}
use Rattle.trees.specs.Rings.{Empty}
use Rattle.trees.specs.Trees.{Climb, Trees, Bridge, Onward, AllOnward}
use Rattle.trees.specs.Trees.Climb.{here, up}
use Rattle.trees.proofs.Climbs.{all_anchored, parent_arc, climb_stays, Height, one_height}
use Rattle.trees.proofs.Heights.{Within, nodes_within, nodes_distinct, nodes_up}

-- arcs of positive residual that lead onward from u to w, through distinct nodes
pub record Leads (v : Net) (f : Forest) (u w : ℕ) (arcs : List ℕ) : Type 0 where
  pub chain : Chain v.graph u arcs
  pub to : last_node v.graph u arcs ≡ w
  pub distinct : Distinct (passed v.graph u arcs)
  pub positive : AllByRecursion (λ r. 0 < r) (map v.residual arcs)
  pub onward : AllOnward v.graph f arcs

leads_none : (v : Net) (f : Forest) (u : ℕ) → Leads v f u u []
leads_none v f u = record {
  chain = tt;
  to = refl;
  distinct = distinct_one u;
  positive = tt;
  onward = λ k b d at is. nth_nil k b at;
}

-- one arc more in front
leads_cons : (v : Net) (f : Forest) (w a : ℕ) (e : Ends) (arcs : List ℕ) → v.graph.ends a ≡ Some e → 0 < v.residual a → Onward f e → ((k : ℕ) → slice_get (passed v.graph e.head arcs) k ≡ Some e.tail → ⊥) → Leads v f e.head w arcs → Leads v f e.tail w (a ∷ arcs)
leads_cons v f w a e arcs is some on new h =
    let g = v.graph in
    record {
      chain = (e, is, refl, h.chain);
      to = rw (ends_are g a e is) h.to;
      distinct = subst (λ (x : Ends). Distinct (e.tail ∷ passed g x.head arcs)) (sym (ends_are g a e is)) (distinct_cons e.tail (passed g e.head arcs) h.distinct new);
      positive = (some, h.positive);
      onward = onward_cons;
    }
  where
    onward_cons : AllOnward v.graph f (a ∷ arcs)
    onward_cons zero b d at at_b = let ends : e ≡ d = cc in subst (Onward f) ends on
    onward_cons (suc k) b d at at_b = h.onward k b d at at_b

-- a chain of arcs up the sink's tree passes the nodes that the climb meets
up_passed : (g : Graph) (u : ℕ) (arcs : List ℕ) → nodes_up g Sink u arcs ≡ passed g u arcs
up_passed g u [] = refl
up_passed g u (a ∷ more) = ap (λ xs. u ∷ xs) (up_passed g (ends_of g a).head more)

-- a climb in the sink's tree leads from its lower end to its upper
pub sink_leads : (v : Net) (f : Forest) (u w : ℕ) (arcs : List ℕ) → Lawful v → Trees v f → u < v.graph.nodes → f.tree u ≡ Some Sink → Climb v.graph f.parent Sink u w arcs → f.parent w ≡ Root → Leads v f u w arcs
sink_leads v f u w arcs l h there in_tree here top = leads_none v f u
sink_leads v f u w arcs l h there in_tree (up {arcs = more} a e hung is c) top =
    let g = v.graph in
    let b = parent_arc v f Sink u a e h there in_tree hung is in
    let rest = sink_leads v f e.head w more l h (near_there g Sink a e l.graph is) b.same_tree c top in
    let nodes = subst Distinct (up_passed g u (a ∷ more)) (nodes_distinct v f Sink u w (a ∷ more) l h there in_tree (up a e hung is c) top) in
    let apart = subst (λ (x : Ends). Distinct (u ∷ passed g x.head more)) (ends_are g a e is) nodes in
    let new : (k : ℕ) → slice_get (passed g e.head more) k ≡ Some e.tail → ⊥ = λ k at. not_again u (passed g e.head more) apart k (at ∙ ap (λ x. Some x) b.child) in
    let onward : Onward f e = inl (Sink, rw b.child in_tree, b.same_tree) in
    rw (← b.child) (leads_cons v f w a e more is b.positive onward new rest)

-- if x is in the source's tree, it is at least k arcs below the terminal
abbrev Beyond : Net → Forest → ℕ → ℕ → Type 0
Beyond v f k x = f.tree x ≡ Some Source → (h : ℕ) → Height v.graph f.parent Source x h → k ≤ h

-- a climb in the source's tree, turned round, leads from its upper end to its lower, and on by what leads on from there
pub source_leads : (v : Net) (f : Forest) (u w z : ℕ) (arcs rest : List ℕ) → Lawful v → Trees v f → u < v.graph.nodes → f.tree u ≡ Some Source → Climb v.graph f.parent Source u w arcs → f.parent w ≡ Root → AllByRecursion (Beyond v f (length arcs)) (passed v.graph u rest) → Leads v f u z rest → Leads v f w z (reverse_aux arcs rest)
source_leads v f u w z arcs rest l h there in_tree here top low way = way
source_leads v f u w z arcs rest l h there in_tree (up {arcs = more} a e hung is c) top low way =
    let g = v.graph in
    let b = parent_arc v f Source u a e h there in_tree hung is in
    let nodes = passed g e.head rest in
    let below : AllByRecursion (Beyond v f (suc (length more))) nodes = rw b.child low in
    let mine : Height g f.parent Source e.tail (length more) = (w, more, c, top, refl) in
    let new : (k : ℕ) → slice_get nodes k ≡ Some e.tail → ⊥ = λ k at.
    omega (arith, all_nth (Beyond v f (suc (length more))) nodes k e.tail below at b.same_tree (length more) mine) in
    let lower : AllByRecursion (Beyond v f (length more)) nodes = All-weaker (Beyond v f (suc (length more))) (Beyond v f (length more)) (λ x far s j its. omega (arith, far s j its)) nodes below in
    let onward : Onward f e = inl (Source, b.same_tree, rw b.child in_tree) in
    source_leads v f e.tail w z more (a ∷ rest) l h (near_there g Source a e l.graph is) b.same_tree c top
    (λ s j its. omega (arith, one_height g f.parent Source e.tail j (length more) its mine), rw (ends_are g a e is) lower)
    (leads_cons v f z a e rest is b.positive onward new (rw b.child way))

-- the arcs from one terminal's child to the other's: up the source's tree turned round, over the bridge, and up the sink's
abbrev pub over : List ℕ → ℕ → List ℕ → List ℕ
over xs a ys = reverse xs ++ a ∷ ys

pub over_length : (xs : List ℕ) (a : ℕ) (ys : List ℕ) → length (over xs a ys) ≡ length xs + 1 + length ys
over_length xs a ys = omega (arith, length-append (reverse xs) (a ∷ ys), length-reverse xs)

pub bridge_leads : (v : Net) (f : Forest) (a : ℕ) (e : Ends) (first last : ℕ) (xs ys : List ℕ) → Lawful v → Trees v f → Bridge v f a e → Climb v.graph f.parent Source e.tail first xs → f.parent first ≡ Root → Climb v.graph f.parent Sink e.head last ys → f.parent last ≡ Root → Leads v f first last (over xs a ys)
bridge_leads v f a e first last xs ys l h b c top d end =
    let g = v.graph in
    let tail = l.graph.tail_there a e b.ends in
    let head = head_there g a e l.graph b.ends in
    let way = sink_leads v f e.head last ys l h head b.head d end in
    let low = subst (AllByRecursion (Within v f Sink (length ys))) (up_passed g e.head ys) (nodes_within v f Sink e.head last ys l h head b.head d end) in
    let nodes = passed g e.head ys in
    let apart : (x : ℕ) → Within v f Sink (length ys) x → f.tree x ≡ Some Source → ⊥ = λ x s t. cc in
    let new : (k : ℕ) → slice_get nodes k ≡ Some e.tail → ⊥ = λ k at. apart e.tail (all_nth (Within v f Sink (length ys)) nodes k e.tail low at) b.tail in
    let far : AllByRecursion (Beyond v f (length xs)) nodes = All-weaker (Within v f Sink (length ys)) (Beyond v f (length xs)) (λ x s t. absurd (apart x s t)) nodes low in
    let mine : Beyond v f (length xs) e.tail = λ s j its. omega (arith, one_height g f.parent Source e.tail j (length xs) its (first, xs, c, top, refl)) in
    let crossing = leads_cons v f last a e ys b.ends b.positive (inr (b.tail, b.head)) new way in
    let all : AllByRecursion (Beyond v f (length xs)) (passed g e.tail (a ∷ ys)) = rw (ends_are g a e b.ends) (mine, far) in
    subst (Leads v f first last) (reverse_aux-eq xs (a ∷ ys)) (source_leads v f e.tail first last xs (a ∷ ys) l h tail b.tail c top all crossing)

-- the path over a bridge, all of whose arcs lead onward
pub bridged : (v : Net) (f : Forest) (a : ℕ) (e : Ends) (first last x : ℕ) (xs ys : List ℕ) → Lawful v → Trees v f → Bridge v f a e → Climb v.graph f.parent Source e.tail first xs → f.parent first ≡ Root → Climb v.graph f.parent Sink e.head last ys → f.parent last ≡ Root → Smallest x (on_the_way v first (over xs a ys)) → Augmenting v (record { amount = x; first = first; arcs = over xs a ys }) × AllOnward v.graph f (over xs a ys)
bridged v f a e first last x xs ys l h b c top d end least =
    let g = v.graph in
    let arcs = over xs a ys in
    let way = bridge_leads v f a e first last xs ys l h b c top d end in
    let (first_there, first-tree) = climb_stays v f Source e.tail first xs l h (l.graph.tail_there a e b.ends) b.tail c in
    let (last_there, last-tree) = climb_stays v f Sink e.head last ys l h (head_there g a e l.graph b.ends) b.head d in
    let sink : 0 < v.terminal Sink (last_node g first arcs) = rw way.to (h.rooted Sink last last_there last-tree end) in (
      record {
        there = first_there;
        chain = way.chain;
        distinct = way.distinct;
        positive = (h.rooted Source first first_there first-tree top, All-push (λ r. 0 < r) (map v.residual arcs) (v.terminal Sink (last_node g first arcs)) way.positive sink);
        amount = least;
      },
      way.onward,
    )

-- where there is a bridge, a path is left
pub bridge_path : (v : Net) (f : Forest) (a : ℕ) (e : Ends) → Lawful v → Trees v f → Empty f Orphans → Bridge v f a e → (p : Path) × Augmenting v p
bridge_path v f a e l h none b =
    let g = v.graph in
    let (first, xs, c, top) = all_anchored v f Source e.tail l h none (l.graph.tail_there a e b.ends) b.tail in
    let (last, ys, d, end) = all_anchored v f Sink e.head l h none (head_there g a e l.graph b.ends) b.head in
    let arcs = over xs a ys in
    let (x, least) = smallest (v.terminal Source first) (map v.residual arcs ++ v.terminal Sink (last_node g first arcs) ∷ []) in
    (record { amount = x; first = first; arcs = arcs }, (bridged v f a e first last x xs ys l h b c top d end least).0)
