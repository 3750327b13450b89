-- Paths and cuts together: a path is left exactly when no selection costs nothing, and the most that paths gain is the least that selections cost.
use Rattle.std.proofs.Common.{◌≡◌, ℕ, zero, suc, ◌<◌, ◌≤◌, false, List, [], ◌∷◌, sym, refl, subst, ⊎_elim, arith}
use Rattle.network.specs.declared.mark.Mark.{Mark}
use Rattle.network.specs.declared.mark.Mark.TheVariants.{In, Out, Either}
use Rattle.network.specs.Nets.{Graph, Net, Lawful}
use Rattle.network.specs.Cuts.{Selection, cost, Cheapest, CheapestCost, Marked}
use Rattle.network.specs.Paths.{Path, Augmenting, carried, Successive, carried_all, gain}
use Rattle.network.specs.Theorems.{Finished, PathLeft, MaxFlowMinCut, OneMark}
use Rattle.network.proofs.Carrying.{path_lowers, paths_lower, some_amount}
use Rattle.network.proofs.Extremes.{extremes, constant_apart}
use Rattle.network.proofs.Searching.{path_or_cut}

pub finished : Finished
finished v ps S l paths s =
    let w = carried_all v ps in
    let moved = paths_lower v ps l paths in
    let left = extremes w S moved.lawful s in
    let same = constant_apart v w (gain ps) moved.costs in
    (subst (CheapestCost v) (omega arith) (same.costs 0 left.free), λ u there. same.marks u _ (left.marks u (subst (λ (g : Graph). u < g.nodes) (sym moved.graph) there)))

pub path_left : PathLeft
path_left v l = (
  λ (p, h) X free. omega (arith, (path_lowers v p l h).costs X, some_amount v p h),
  λ none. ⊎_elim (λ (path : (p : Path) × Augmenting v p). path) (λ ((X, free) : (X : Selection) × (cost v X ≡ 0)). absurd (none X free)) (path_or_cut v l),
)

-- nothing selected: every path lowers its cost, so there is a last one
abbrev nothing : Selection
nothing u = false

-- paths that gain what a cheapest selection costs
abbrev Maximal : Net → Type 0
Maximal v = (ps : List Path) × Successive v ps × CheapestCost v (gain ps)

no_path : (v : Net) → (X : Selection) × (cost v X ≡ 0) → Maximal v
no_path v (X, free) = ([], tt, (X, λ Y. omega arith, free))

one_path_more : (v : Net) (p : Path) → Lawful v → Augmenting v p → Maximal (carried v p) → Maximal v
one_path_more v p l h (ps, paths, cheapest) =
    let same = constant_apart v (carried v p) p.amount (path_lowers v p l h).costs in
    (p ∷ ps, (h, paths), subst (CheapestCost v) (omega arith) (same.costs (gain ps) cheapest))

-- a path lowers the cost of nothing selected
less_left : (v : Net) (p : Path) → Lawful v → Augmenting v p → cost (carried v p) nothing < cost v nothing
less_left v p l h = omega (arith, (path_lowers v p l h).costs nothing, some_amount v p h)

augment : (m : ℕ) (v : Net) → Lawful v → cost v nothing ≤ m → Maximal v
augment zero v l few = ⊎_elim
    (λ ((p, h) : (p : Path) × Augmenting v p). absurd (omega (arith, less_left v p l h)))
    (no_path v)
    (path_or_cut v l)
augment (suc m) v l few = ⊎_elim
    (λ ((p, h) : (p : Path) × Augmenting v p). one_path_more v p l h (augment m (carried v p) (path_lowers v p l h).lawful (omega (arith, less_left v p l h))))
    (no_path v)
    (path_or_cut v l)

pub max_flow_min_cut : MaxFlowMinCut
max_flow_min_cut v l = augment (cost v nothing) v l (omega arith)

pub one_mark : OneMark
one_mark v u m k l p q =
    let (_, _, (X, cheapest, _)) = max_flow_min_cut v l in
    by m k (X, cheapest) p q
  where
    by : (m k : Mark) → (X : Selection) × Cheapest v X → Marked v u m → Marked v u k → m ≡ k
    by In In x p q = refl
    by In Out (X, c) p q = cc (p X c, q X c)
    by In Either x p (_, (Y, c, off)) = cc (p Y c)
    by Out In (X, c) p q = cc (p X c, q X c)
    by Out Out x p q = refl
    by Out Either x p ((Y, c, on), _) = cc (p Y c)
    by Either In x (_, (Y, c, off)) q = cc (q Y c)
    by Either Out x ((Y, c, on), _) q = cc (q Y c)
    by Either Either x p q = refl
