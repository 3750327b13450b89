-- The energy of a selection of an area, in costs and penalties of its pixels' greys.
use Rattle.std.proofs.Common.{◌≡◌, ℕ, ◌+◌, ◌*◌, ◌<◌, Bool, true, false, cond, ◌&&◌, refl, ap, sym, arith}
use Rattle.std.proofs.lemmas.Bool.{ltb-true}
use Rattle.network.specs.Cuts.{Selection, sum_below}
use Rattle.network.proofs.Sums.{sum_same}
use Rattle.tile.specs.declared.direction.Direction.{Direction}
use Rattle.tile.specs.declared.direction.Direction.TheVariants.{Right, Below}
use Rattle.tile.specs.Tiles.{line, tone, differ, paid}
use Rattle.tile.proofs.Energies.{sum_both}
use Rattle.netpbm.specs.Images.{Image}
use Rattle.prepress.specs.declared.area.Area.{Area}
use Rattle.prepress.specs.Areas.{pixel_count, place, has_right, has_below}
use Rattle.prepress.specs.Greys.{line_cost, tone_cost, penalty, grey, grey_of, area_costs}
use Rattle.prepress.specs.Splits.{costs_of, penalties_right, penalties_below, EnergyAddsUp}
use Rattle.prepress.proofs.Areas.{split_rows, right_place, below_place}
use Rattle.prepress.proofs.Costs.{cost_at, right_joined, below_joined}

-- the costs of a pixel, of which one is chosen
cost_chosen : (i : Image) (a : Area) (X : Selection) (v : ℕ) → v < pixel_count a → cond (X v) (line (area_costs i a) v) (tone (area_costs i a) v) ≡ cond (X v) (line_cost (grey_of i a v)) (tone_cost (grey_of i a v))
cost_chosen i a X v there =
    let first : 4 * v + 0 ≡ 4 * v = omega arith in
    let as_line : line (area_costs i a) v ≡ line_cost (grey_of i a v) = rw first at (cost_at i a v 0 there (omega arith)) in
    rw (as_line, cost_at i a v 1 there (omega arith)) refl

-- what a pixel pays on the tile for its neighbour in a direction
abbrev laid : Image → Area → Selection → Direction → ℕ → ℕ
laid i a X d v = paid a.width (pixel_count a) (area_costs i a) X d v

-- a penalty that counts only where there is a neighbour is told where there is one
where_there : (there differs : Bool) (x y : ℕ) → (there ≡ true → x ≡ y) → cond (there && differs) (cond there x 0) 0 ≡ cond (there && differs) y 0
where_there true differs x y same = ap (λ k. cond differs k 0) (same refl)
where_there false differs x y same = refl

paid_right : (i : Image) (a : Area) (X : Selection) (v : ℕ) → v < pixel_count a → laid i a X Right v ≡ cond (has_right a v && differ (X v) (X (v + 1))) (penalty (grey_of i a v) (grey_of i a (v + 1))) 0
paid_right i a X v there =
    let same : has_right a v ≡ true → penalty (grey_of i a v) (grey i (place i.width a v + 1)) ≡ penalty (grey_of i a v) (grey_of i a (v + 1)) = λ more. ap (λ p. penalty (grey_of i a v) (grey i p)) (sym (right_place i.width v a (ltb-true _ _ more))) in
    rw (right_joined a v there, cost_at i a v 2 there (omega arith)) (where_there (has_right a v) (differ (X v) (X (v + 1))) _ _ same)

paid_below : (i : Image) (a : Area) (X : Selection) (v : ℕ) → v < pixel_count a → laid i a X Below v ≡ cond (has_below a v && differ (X v) (X (v + a.width))) (penalty (grey_of i a v) (grey_of i a (v + a.width))) 0
paid_below i a X v there =
    let (_, _, column, _) = split_rows a.height a.width v (omega arith) in
    let same : has_below a v ≡ true → penalty (grey_of i a v) (grey i (place i.width a v + i.width)) ≡ penalty (grey_of i a v) (grey_of i a (v + a.width)) = λ _. ap (λ p. penalty (grey_of i a v) (grey i p)) (sym (below_place i.width v a column)) in
    rw (below_joined a v there, cost_at i a v 3 there (omega arith)) (where_there (has_below a v) (differ (X v) (X (v + a.width))) _ _ same)

-- all pixels pay the penalties to the right and to below
all_paid : (i : Image) (a : Area) (X : Selection) → sum_below (pixel_count a) (λ v. laid i a X Right v + laid i a X Below v) ≡ penalties_right i a X + penalties_below i a X
all_paid i a X =
    let right : sum_below (pixel_count a) (laid i a X Right) ≡ penalties_right i a X = sum_same (pixel_count a) _ _ (paid_right i a X) in
    let below : sum_below (pixel_count a) (laid i a X Below) ≡ penalties_below i a X = sum_same (pixel_count a) _ _ (paid_below i a X) in
    omega (arith, sum_both (pixel_count a) (laid i a X Right) (laid i a X Below), right, below)

pub energy_adds_up : (i : Image) → EnergyAddsUp i
energy_adds_up i a X =
    let costs : sum_below (pixel_count a) (λ v. cond (X v) (line (area_costs i a) v) (tone (area_costs i a) v)) ≡ costs_of i a X = sum_same (pixel_count a) _ _ (cost_chosen i a X) in
    omega (arith, costs, all_paid i a X)
