-- What is laid of an area is accepted, and splits it for little.
use Rattle.std.proofs.Common.{◌≡◌, ℕ, zero, suc, ◌+◌, ◌-◌, ◌*◌, ◌/◌, ◌%◌, ◌<◌, ◌≤◌, Bool, true, false, cond, not, ◌&&◌, List, [], ◌∷◌, ◌++◌, length, get_or, refl, ap, ◌∙◌, subst, arith}
use Rattle.std.specs.Prelude.{None, nat_lt}
use Rattle.std.specs.List.{flat_map, range_with_len}
use Rattle.std.proofs.lemmas.Bool.{cases_Bool, le-leb, eq-eqb, le-ltb}
use Rattle.std.proofs.lemmas.List.{length-append, get_or_append_left, get_or-append_right}
use Rattle.tile.specs.declared.direction.Direction.TheVariants.{Right, Below}
use Rattle.tile.specs.Grids.{joined}
use Rattle.tile.specs.Refusals.{penalty_off, off_tile, lay_refusal}
use Rattle.tile.proofs.Ranges.{none_passes}
use Rattle.tile.proofs.Rows.{joins_neighbours}
use Rattle.netpbm.specs.Images.{Image}
use Rattle.prepress.specs.declared.area.Area.{Area}
use Rattle.prepress.specs.Areas.{OnPage, pixel_count, has_right, has_below}
use Rattle.prepress.specs.Cuts.{Bytes}
use Rattle.prepress.specs.Greys.{pixel_costs, area_costs}
use Rattle.prepress.proofs.Areas.{split_rows}

-- pieces of four, one behind another
fours_long : (f : ℕ → List ℕ) (a n : ℕ) → ((v : ℕ) → length (f v) ≡ 4) → length (flat_map f (range_with_len a n)) ≡ 4 * n
fours_long f a zero four = refl
fours_long f a (suc n) four = omega (arith, length-append (f a) (flat_map f (range_with_len (a + 1) n)), four a, fours_long f (a + 1) n four)

fours_at : (f : ℕ → List ℕ) (a n v k : ℕ) → ((v : ℕ) → length (f v) ≡ 4) → v < n → k < 4 → get_or (flat_map f (range_with_len a n)) (4 * v + k) 0 ≡ get_or (f (a + v)) k 0
fours_at f a zero v k four there inside = absurd (omega arith)
fours_at f a (suc n) zero k four there inside =
    let here : a + 0 ≡ a = omega arith in
    let first : 4 * 0 + k ≡ k = omega arith in
    rw (here, first) (get_or_append_left (f a) (flat_map f (range_with_len (a + 1) n)) 0 k (omega (arith, four a)))
fours_at f a (suc n) (suc v) k four there inside =
    let on : 4 * suc v + k - 4 ≡ 4 * v + k = omega arith in
    let next : a + suc v ≡ a + 1 + v = omega arith in
    get_or-append_right (f a) (flat_map f (range_with_len (a + 1) n)) 4 (4 * suc v + k) 0 (four a) (omega arith)
    ∙ rw (on, next) (fours_at f (a + 1) n v k four (omega arith) inside)

pub costs_long : (i : Image) (a : Area) → length (area_costs i a) ≡ 4 * pixel_count a
costs_long i a = fours_long (pixel_costs i a) 0 (pixel_count a) (λ v. refl)

-- the bytes of pixel v
pub cost_at : (i : Image) (a : Area) (v k : ℕ) → v < pixel_count a → k < 4 → get_or (area_costs i a) (4 * v + k) 0 ≡ get_or (pixel_costs i a v) k 0
cost_at i a v k there inside = let same : 0 + v ≡ v = omega arith in fours_at (pixel_costs i a) 0 (pixel_count a) v k (λ u. refl) there inside ∙ ap (λ u. get_or (pixel_costs i a u) k 0) same

-- nothing passes the test of a penalty off the tile: there is one only where the neighbour is on the area
no_penalty : (b : Bool) (x : ℕ) → (nat_lt 0 (cond b x 0) && not b) ≡ false
no_penalty true x = grind (arith, cases_Bool (nat_lt 0 x))
no_penalty false x = refl

-- the neighbours of a pixel are joined to it where they are on the area
pub right_joined : (a : Area) (v : ℕ) → v < pixel_count a → joined a.width (pixel_count a) Right v ≡ has_right a v
right_joined a v there =
    let (_, row, column, whole) = split_rows a.height a.width v (omega arith) in
    subst (λ k. joined a.width (pixel_count a) Right k ≡ has_right a v) whole (joins_neighbours a.width a.height (v % a.width) (v / a.width) column row).right

pub below_joined : (a : Area) (v : ℕ) → v < pixel_count a → joined a.width (pixel_count a) Below v ≡ has_below a v
below_joined a v there =
    let (_, row, column, whole) = split_rows a.height a.width v (omega arith) in
    subst (λ k. joined a.width (pixel_count a) Below k ≡ has_below a v) whole (joins_neighbours a.width a.height (v % a.width) (v / a.width) column row).below

no_right : (i : Image) (a : Area) (v : ℕ) → v < pixel_count a → penalty_off a.width (pixel_count a) (area_costs i a) Right v ≡ false
no_right i a v there = rw (right_joined a v there, cost_at i a v 2 there (omega arith)) (no_penalty (has_right a v) _)

no_below : (i : Image) (a : Area) (v : ℕ) → v < pixel_count a → penalty_off a.width (pixel_count a) (area_costs i a) Below v ≡ false
no_below i a v there = rw (below_joined a v there, cost_at i a v 3 there (omega arith)) (no_penalty (has_below a v) _)

costs_inside : (i : Image) (a : Area) → off_tile a.width (pixel_count a) (area_costs i a) ≡ false
costs_inside i a = none_passes _ 0 (pixel_count a) (λ v there. let inside : v < pixel_count a = omega arith in rw (no_right i a v inside, no_below i a v inside) refl)

-- so a lay over a table that is long enough is accepted
pub lay_accepted : (i : Image) (a : Area) (w h records : ℕ) → OnPage w h a → pixel_count a ≤ records → lay_refusal a.width a.height (area_costs i a) records ≡ None
lay_accepted i a w h records on room =
    let long = costs_long i a in
    rw (costs_inside i a, le-leb 1 a.width on.some_columns, le-leb a.width 64 on.narrow, le-leb 1 a.height on.some_rows, le-leb a.height 64 on.low, eq-eqb (length (area_costs i a)) (4 * (a.width * a.height)) long, le-ltb records (pixel_count a) room) refl

-- the costs are bytes
pub four_bytes : (a b c d : ℕ) → a < 256 → b < 256 → c < 256 → d < 256 → Bytes (a ∷ b ∷ c ∷ d ∷ [])
four_bytes a b c d p q r s zero = omega arith
four_bytes a b c d p q r s (suc zero) = omega arith
four_bytes a b c d p q r s (suc (suc zero)) = omega arith
four_bytes a b c d p q r s (suc (suc (suc zero))) = omega arith
four_bytes a b c d p q r s (suc (suc (suc (suc k)))) = omega arith

pub more_bytes : (xs ys : List ℕ) → Bytes xs → Bytes ys → Bytes (xs ++ ys)
more_bytes [] ys p q k = q k
more_bytes (x ∷ xs) ys p q zero = p 0
more_bytes (x ∷ xs) ys p q (suc k) = more_bytes xs ys (λ j. p (suc j)) q k
