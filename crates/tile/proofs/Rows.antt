-- Where the neighbours of a pixel are on the tile, by its row and its place in it.
use Rattle.std.proofs.Common.{◌≡◌, ℕ, ◌+◌, ◌*◌, ◌/◌, ◌%◌, cond, ◌<◌, ◌≤◌, ◌&&◌, refl, ap, ◌∙◌, sym, ⊎_elim, arith}
use Rattle.std.proofs.lemmas.Bool.{cases_Bool, cases_lt, lt-ltb, le-ltb, le-leb}
use Rattle.std.proofs.lemmas.Nat.{mod-mul-add, mul-add-lt, mul-le}
use Rattle.std.proofs.Math.Nat.{mod-lt, mod-add-div'}
use Rattle.std.specs.Prelude.{nat_lt}
use Rattle.tile.specs.declared.direction.Direction.TheVariants.{Right, Left, Below, Above}
use Rattle.tile.specs.Grids.{goes_on, joined}
use Rattle.tile.specs.Theorems.{pixel_number, JoinsNeighbours}

-- the column of the next pixel
pub column_of_next : (w v : ℕ) → 0 < w → (v + 1) % w ≡ cond (nat_lt (v % w + 1) w) (v % w + 1) 0
column_of_next w v some =
    let x = v % w in
    let y = v / w in
    let inside : x < w = mod-lt v some in
    let whole : x + y * w ≡ v = mod-add-div' v w in
    ⊎_elim
    (λ (on : x + 1 < w). let next : v + 1 ≡ y * w + (x + 1) = omega (arith, whole) in rw (lt-ltb (x + 1) w on, next) (mod-mul-add y w (x + 1) on))
    (λ (last : w ≤ x + 1). let next : v + 1 ≡ (y + 1) * w + 0 = omega (arith, whole) in rw (le-ltb (x + 1) w last, next) (mod-mul-add (y + 1) w 0 some))
    (cases_lt (x + 1) w)

-- it stands in the same row unless that ends
pub row_goes_on : (w v : ℕ) → 0 < w → goes_on w (v + 1) ≡ nat_lt (v % w + 1) w
row_goes_on w v some = ap (nat_lt 0) (column_of_next w v some) ∙ ⊎_elim
    (λ (on : v % w + 1 < w). rw (lt-ltb (v % w + 1) w on) (lt-ltb 0 (v % w + 1) (omega arith)))
    (λ (last : w ≤ v % w + 1). rw (le-ltb (v % w + 1) w last) refl)
    (cases_lt (v % w + 1) w)

right : (w h x y : ℕ) → x < w → y < h → joined w (w * h) Right (pixel_number w x y) ≡ nat_lt (x + 1) w
right w h x y inside row =
    let v = pixel_number w x y in
    let goes : goes_on w (v + 1) ≡ nat_lt (x + 1) w = row_goes_on w v (omega arith) ∙ ap (λ k. nat_lt (k + 1) w) (mod-mul-add y w x inside) in
    ap (λ b. nat_lt (v + 1) (w * h) && b) goes ∙ ⊎_elim
    (λ (on : x + 1 < w). let next : v + 1 ≡ y * w + (x + 1) = omega arith in rw (lt-ltb (x + 1) w on, next, lt-ltb (y * w + (x + 1)) (w * h) (mul-add-lt y w (x + 1) h row on)) refl)
    (λ (last : w ≤ x + 1). rw (le-ltb (x + 1) w last) (grind (arith, cases_Bool (nat_lt (v + 1) (w * h)))))
    (cases_lt (x + 1) w)

left : (w h x y : ℕ) → x < w → y < h → joined w (w * h) Left (pixel_number w x y) ≡ nat_lt 0 x
left w h x y inside row = rw (lt-ltb (pixel_number w x y) (w * h) (mul-add-lt y w x h row inside), mod-mul-add y w x inside) refl

below : (w h x y : ℕ) → x < w → y < h → joined w (w * h) Below (pixel_number w x y) ≡ nat_lt (y + 1) h
below w h x y inside row =
    let next : pixel_number w x y + w ≡ (y + 1) * w + x = omega arith in
    ⊎_elim
    (λ (more : y + 1 < h). rw (next, lt-ltb ((y + 1) * w + x) (w * h) (mul-add-lt (y + 1) w x h more inside)) (sym (lt-ltb (y + 1) h more)))
    (λ (last : h ≤ y + 1). let past : w * h ≤ (y + 1) * w + x = omega (arith, mul-le h w (y + 1) w last (omega arith)) in rw (next, le-ltb ((y + 1) * w + x) (w * h) past) (sym (le-ltb (y + 1) h last)))
    (cases_lt (y + 1) h)

above : (w h x y : ℕ) → x < w → y < h → joined w (w * h) Above (pixel_number w x y) ≡ nat_lt 0 y
above w h x y inside row =
    rw (lt-ltb (pixel_number w x y) (w * h) (mul-add-lt y w x h row inside))
    (⊎_elim
    (λ (more : 0 < y). let past : w ≤ y * w + x = omega (arith, mul-le 1 w y w more (omega arith)) in le-leb w (y * w + x) past ∙ sym (lt-ltb 0 y more))
    (λ (first : y ≤ 0). grind (arith))
    (cases_lt 0 y))

pub joins_neighbours : JoinsNeighbours
joins_neighbours w h x y inside row = record {
  right = right w h x y inside row;
  left = left w h x y inside row;
  below = below w h x y inside row;
  above = above w h x y inside row;
  to_right = omega arith;
  to_left = omega arith;
  to_below = omega arith;
  to_above = omega arith;
}
