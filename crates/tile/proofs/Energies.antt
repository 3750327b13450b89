-- Every selection of a tile's network costs its energy.
use Rattle.std.proofs.Common.{◌≡◌, ℕ, zero, suc, ◌+◌, ◌-◌, ◌*◌, ◌<◌, ◌≤◌, Bool, true, false, cond, not, ◌&&◌, List, refl, sym, ap, ◌∙◌, ⊎_elim, arith}
use Rattle.std.proofs.lemmas.Bool.{cases_Bool}
use Rattle.std.specs.Prelude.{slice_index}
use Rattle.network.specs.Cuts.{Selection, sum_below, node_cost, arc_cost, cost}
use Rattle.network.proofs.Sums.{sum_same, sum_zero, sum_past}
use Rattle.tile.specs.declared.direction.Direction.{Direction}
use Rattle.tile.specs.declared.direction.Direction.TheVariants.{Right, Left, Below, Above}
use Rattle.tile.specs.Grids.{opposite, neighbour, LeadsBack, joined, arc_of}
use Rattle.tile.specs.Laws.{owner_of_arc, direction_of_arc, opposite_again, both_joined, arc_there}
use Rattle.tile.specs.Tiles.{penalty_to, tile_network, differ, paid, energy}

-- a sum of sums
pub sum_both : (n : ℕ) (f g : ℕ → ℕ) → sum_below n (λ k. f k + g k) ≡ sum_below n f + sum_below n g
unfolding sum_below
sum_both zero f g = refl
sum_both (suc n) f g = omega (arith, sum_both n f g)

-- the sum of f over the arcs of m pixels in one direction
abbrev over : (ℕ → ℕ) → ℕ → Direction → ℕ
over f m d = sum_below m (λ v. f (arc_of d v))

-- a sum over the codes of m pixels takes them by direction
sum_fours : (m : ℕ) (f : ℕ → ℕ) → sum_below (4 * m) f ≡ over f m Right + over f m Left + (over f m Below + over f m Above)
unfolding sum_below
sum_fours zero f = refl
sum_fours (suc m) f =
    let four : 4 * suc m ≡ suc (suc (suc (suc (4 * m)))) = omega arith in
    let right : f (4 * m) ≡ f (4 * m + 0) = ap f (omega arith) in
    let left : f (suc (4 * m)) ≡ f (4 * m + 1) = ap f (omega arith) in
    let below : f (suc (suc (4 * m))) ≡ f (4 * m + 2) = ap f (omega arith) in
    let above : f (suc (suc (suc (4 * m)))) ≡ f (4 * m + 3) = ap f (omega arith) in
    rw four (omega (arith, sum_fours m f, right, left, below, above))

-- a sum whose first s terms are 0 may begin after them
sum_later : (n s : ℕ) (f : ℕ → ℕ) → ((v : ℕ) → v < s → f v ≡ 0) → sum_below (n + s) f ≡ sum_below n (λ v. f (v + s))
unfolding sum_below
sum_later zero s f none = let same : 0 + s ≡ s = omega arith in rw same (sum_zero s f none)
sum_later (suc n) s f none = let next : suc n + s ≡ suc (n + s) = omega arith in rw next (omega (arith, sum_later n s f none))

-- an arc that is not there pays nothing
unpaid : (w h : ℕ) (bs : List ℕ) (X : Selection) (d : Direction) (v : ℕ) → joined w (w * h) d v ≡ false → arc_cost (tile_network w h bs) X (arc_of d v) ≡ 0
unpaid w h bs X d v none = rw (owner_of_arc d v, direction_of_arc d v, none) refl

-- there are no arcs from past the last pixel, none to the left from the first one, and none up from the first row
pub no_arc : (w n : ℕ) (d : Direction) (v : ℕ) → n ≤ v → joined w n d v ≡ false
no_arc w n d v past = ⊎_elim
    (λ (there : joined w n d v ≡ true). absurd (omega (arith, (both_joined w n d v there).pixel)))
    (λ none. none)
    (cases_Bool (joined w n d v))

no_left : (w n v : ℕ) → v < 1 → joined w n Left v ≡ false
no_left w n v first = ⊎_elim
    (λ (there : joined w n Left v ≡ true). absurd (omega (arith, (both_joined w n Left v there).back)))
    (λ none. none)
    (cases_Bool (joined w n Left v))

no_above : (w n v : ℕ) → v < w → joined w n Above v ≡ false
no_above w n v first = ⊎_elim
    (λ (there : joined w n Above v ≡ true). absurd (omega (arith, (both_joined w n Above v there).back)))
    (λ none. none)
    (cases_Bool (joined w n Above v))

-- what two arcs pay that lead to and fro
to_and_fro : (x y : Bool) (k : ℕ) → cond (x && not y) k 0 + cond (y && not x) k 0 ≡ cond (differ x y) k 0
to_and_fro true true k = refl
to_and_fro true false k = omega arith
to_and_fro false true k = omega arith
to_and_fro false false k = refl

-- the two arcs between neighbours pay their penalty where one is line and the other tone
pair_cost : (w h : ℕ) (bs : List ℕ) (X : Selection) (d : Direction) (v : ℕ) → LeadsBack w d v → penalty_to w (opposite d) bs (neighbour w d v) ≡ penalty_to w d bs v → arc_cost (tile_network w h bs) X (arc_of d v) + arc_cost (tile_network w h bs) X (arc_of (opposite d) (neighbour w d v)) ≡ paid w (w * h) bs X d v
pair_cost w h bs X d v back same = ⊎_elim
    (λ (there : joined w (w * h) d v ≡ true). rw (there_cost d v there, there_cost (opposite d) (neighbour w d v) (both_joined w (w * h) d v there).again, back, same, there) (to_and_fro (X v) (X (neighbour w d v)) (penalty_to w d bs v)))
    (λ (none : joined w (w * h) d v ≡ false). rw (unpaid w h bs X d v none, unpaid w h bs X (opposite d) (neighbour w d v) (neither none), none) refl)
    (cases_Bool (joined w (w * h) d v))
  where
    there_cost : (d : Direction) (v : ℕ) → joined w (w * h) d v ≡ true → arc_cost (tile_network w h bs) X (arc_of d v) ≡ cond (X v && not (X (neighbour w d v))) (penalty_to w d bs v) 0
    there_cost d v there = rw (arc_there w (w * h) d v there, owner_of_arc d v, direction_of_arc d v, there) refl

    neither : joined w (w * h) d v ≡ false → joined w (w * h) (opposite d) (neighbour w d v) ≡ false
    neither none = ⊎_elim
        (λ (there : joined w (w * h) (opposite d) (neighbour w d v) ≡ true). absurd (
        let again : joined w (w * h) d v ≡ true = rw (opposite_again d, back) at (both_joined w (w * h) (opposite d) (neighbour w d v) there).again in
        cc))
        (λ none. none)
        (cases_Bool (joined w (w * h) (opposite d) (neighbour w d v)))

-- arcs back, by the pixels that they lead to
arcs_back : (n s : ℕ) (f : ℕ → ℕ) → ((v : ℕ) → v < s → f v ≡ 0) → ((v : ℕ) → n ≤ v → f v ≡ 0) → sum_below n f ≡ sum_below n (λ v. f (v + s))
arcs_back n s f none past = sym (sum_past (n + s) n f (omega arith) past) ∙ sum_later n s f none

-- all codes together pay the penalties of neighbours that differ
arcs_cost : (w h : ℕ) (bs : List ℕ) (X : Selection) → w * h ≤ 4096 → sum_below 32768 (arc_cost (tile_network w h bs) X) ≡ sum_below (w * h) (λ v. paid w (w * h) bs X Right v + paid w (w * h) bs X Below v)
arcs_cost w h bs X few =
    let n = w * h in
    let f : ℕ → ℕ = arc_cost (tile_network w h bs) X in
    let past : (d : Direction) (v : ℕ) → n ≤ v → f (arc_of d v) ≡ 0 = λ d v out. unpaid w h bs X d v (no_arc w n d v out) in
    let few_pixels : (d : Direction) → over f 8192 d ≡ over f n d = λ d. sum_past 8192 n (λ v. f (arc_of d v)) (omega arith) (past d) in
    let left : over f n Left ≡ sum_below n (λ v. f (arc_of Left (v + 1))) = arcs_back n 1 (λ v. f (arc_of Left v)) (λ v first. unpaid w h bs X Left v (no_left w n v first)) (past Left) in
    let above : over f n Above ≡ sum_below n (λ v. f (arc_of Above (v + w))) = arcs_back n w (λ v. f (arc_of Above v)) (λ v first. unpaid w h bs X Above v (no_above w n v first)) (past Above) in
    let right : over f n Right + sum_below n (λ v. f (arc_of Left (v + 1))) ≡ sum_below n (paid w n bs X Right) =
    sym (sum_both n (λ v. f (arc_of Right v)) (λ v. f (arc_of Left (v + 1)))) ∙ sum_same n _ _ (λ v _. pair_cost w h bs X Right v (omega arith) (back 1 2 v)) in
    let below : over f n Below + sum_below n (λ v. f (arc_of Above (v + w))) ≡ sum_below n (paid w n bs X Below) =
    sym (sum_both n (λ v. f (arc_of Below v)) (λ v. f (arc_of Above (v + w)))) ∙ sum_same n _ _ (λ v _. pair_cost w h bs X Below v (omega arith) (back w 3 v)) in
    sum_fours 8192 f ∙ omega (arith, few_pixels Right, few_pixels Left, few_pixels Below, few_pixels Above, left, above, right, below) ∙ sym (sum_both n (paid w n bs X Right) (paid w n bs X Below))
  where
    back : (s k v : ℕ) → slice_index bs (4 * (v + s - s) + k) ≡ slice_index bs (4 * v + k)
    back s k v = ap (slice_index bs) (omega arith)

pub energy_is_cost : (w h : ℕ) (bs : List ℕ) (X : Selection) → w * h ≤ 4096 → cost (tile_network w h bs) X ≡ energy w h bs X
energy_is_cost w h bs X few = ap (λ k. sum_below (w * h) (node_cost (tile_network w h bs) X) + k) (arcs_cost w h bs X few)
