-- The loop that sends an amount along the arcs of a way: what holds before each arc.
use Rattle.std.proofs.Common.{◌≡◌, ℕ, suc, ◌+◌, ◌<◌, ◌≤◌, List, ◌∷◌, length, get_or, drop, refl, subst}
use Rattle.std.proofs.lemmas.List.{drop_more}
use Rattle.network.specs.Nets.{Net, Lawful, Distinct, shifted}
use Rattle.network.specs.Paths.{Path, passed, Augmenting, shifted_along}
use Rattle.network.proofs.Lists.{distinct_more}
use Rattle.network.proofs.Laws.{ends_are}
use Rattle.network.proofs.Carrying.{roomy_more, path_room, begun}
use Rattle.trees.specs.Forests.{Forest}
use Rattle.trees.specs.Trees.{Trees, AllOnward}
use Rattle.trees.specs.Carryings.{OnwardArc, Way}
use Rattle.trees.proofs.Disowning.{onward_in}

-- the first i arcs have been sent along: what is left to send is what was to be sent
pub record Sending (v₁ : Net) (arcs : List ℕ) (x i : ℕ) (v : Net) (f : Forest) : Type 0 where
  pub trees : Trees v f
  pub whole : shifted_along v (drop i arcs) x ≡ shifted_along v₁ arcs x
  pub way : Way v f x (drop i arcs)

way_first : (v : Net) (f : Forest) (a x : ℕ) (more : List ℕ) → Way v f x (a ∷ more) → OnwardArc v f a × (x ≤ v.residual a)
way_first v f a x more w = let (e, is, _, _) = w.chain in ((e, is, w.onward 0 a e refl is), w.room 0 a refl)

-- an augmenting path is a way
pub path_way : (v : Net) (f f' : Forest) (p : Path) → Augmenting v p → AllOnward v.graph f p.arcs → f'.tree ≡ f.tree → Way (begun v p) f' p.amount p.arcs
path_way v f f' p h onward same = record {
  first = p.first;
  chain = h.chain;
  distinct = h.distinct;
  room = path_room v p h;
  onward = λ k b d at there. onward_in f f' d same (onward k b d at there);
}

-- the way after its first arc
way_rest : (v : Net) (f f' : Forest) (a x : ℕ) (more : List ℕ) → Lawful v → f'.tree ≡ f.tree → Way v f x (a ∷ more) → Way (shifted v a x) f' x more
way_rest v f f' a x more l same w =
    let g = v.graph in
    let (e, is, from, rest) = w.chain in
    let apart : Distinct (w.first ∷ passed g e.head more) = rw (← ends_are g a e is) w.distinct in
    record {
      first = e.head;
      chain = rest;
      distinct = distinct_more w.first (passed g e.head more) apart;
      room = roomy_more v w.first a x e more l is from rest apart w.room;
      onward = λ k b d at there. onward_in f f' d same (w.onward (suc k) b d at there);
    }

-- the way that is left begins with the arc at its place
way_here : (v₁ : Net) (arcs : List ℕ) (x i : ℕ) (v : Net) (f : Forest) → i < length arcs → Sending v₁ arcs x i v f → Way v f x (get_or arcs i 0 ∷ drop (i + 1) arcs)
way_here v₁ arcs x i v f inside s = subst (Way v f x) (drop_more arcs i 0 inside) s.way

pub sending_next : {v₁ : Net} {arcs : List ℕ} {x i : ℕ} {v : Net} {f : Forest} → i < length arcs → Sending v₁ arcs x i v f → OnwardArc v f (get_or arcs i 0) × (x ≤ v.residual (get_or arcs i 0))
sending_next inside s = way_first _ _ _ _ _ (way_here _ _ _ _ _ _ inside s)

pub sending_more : {v₁ : Net} {arcs : List ℕ} {x i : ℕ} {v v' : Net} {f f' : Forest} → Lawful v → i < length arcs → v' ≡ shifted v (get_or arcs i 0) x → Trees v' f' → f'.tree ≡ f.tree → Sending v₁ arcs x i v f → Sending v₁ arcs x (i + 1) v' f'
sending_more {v₁ = v₁} {arcs = arcs} {x = x} {i = i} {v = v} {f = f} {f' = f'} l inside value h same s =
    let a = get_or arcs i 0 in
    let more = drop (i + 1) arcs in
    record {
      trees = h;
      whole = rw value (rw (drop_more arcs i 0 inside) at s.whole);
      way = rw value (way_rest v f f' a x more l same (way_here v₁ arcs x i v f inside s));
    }
