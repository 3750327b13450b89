-- The areas of a page lie on it, side by side.
use Rattle.std.proofs.Common.{◌≡◌, ℕ, ◌+◌, ◌-◌, ◌*◌, ◌/◌, ◌%◌, ◌<◌, ◌≤◌, ap, sym, ◌∙◌, subst, ⊎_elim, arith}
use Rattle.std.proofs.lemmas.Bool.{cases_eq}
use Rattle.std.proofs.lemmas.Nat.{mod-mul-add, div-mul-add, mul-add-lt}
use Rattle.std.proofs.Math.Nat.{mod-add-div', mod-lt, div-lt_iff_lt-mul}
use Rattle.prepress.specs.declared.area.Area.{Area}
use Rattle.prepress.specs.Areas.{part_count, part_length, area_count, area_of, OnPage, pixel_count, place, StandsAt, AreasPartPages}

-- a number below m * n is one of m rows of n places, and a place in it
pub split_rows : (m n k : ℕ) → k < m * n → (0 < n) × (k / n < m) × (k % n < n) × (k / n * n + k % n ≡ k)
split_rows m n k there =
    let some : 0 < n = ⊎_elim (λ (none : n ≡ 0). let no : k < m * 0 = subst (λ j. k < m * j) none there in absurd (omega arith)) (λ (not : n ≡ 0 → ⊥). omega (arith, not)) (cases_eq n 0) in
    (some, (div-lt_iff_lt-mul some).1 there, mod-lt k some, omega (arith, mod-add-div' k n))

-- a part of a side lies on it
part_inside : (side k : ℕ) → k < part_count side → (0 < part_length side k) × (part_length side k ≤ 64) × (k * 64 + part_length side k ≤ side)
part_inside side k there = (omega arith, omega arith, omega arith)

-- so an area lies on the page
pub area_inside : (w h t : ℕ) → t < area_count w h → OnPage w h (area_of w h t)
area_inside w h t there =
    let (some, row, column, _) = split_rows (part_count h) (part_count w) t (omega arith) in
    let across = part_inside w (t % part_count w) column in
    let down = part_inside h (t / part_count w) row in
    record {
      some_columns = across.0;
      some_rows = down.0;
      narrow = across.1;
      low = down.1;
      columns = across.2;
      rows = down.2;
    }

-- a pixel of an area by its row and its column on the page
pub pixel_row : (w h v : ℕ) (a : Area) → OnPage w h a → v < pixel_count a → (a.top + v / a.width < h) × (a.left + v % a.width < w)
pixel_row w h v a on inside =
    let (_, row, column, _) = split_rows a.height a.width v (omega arith) in
    (omega (arith, on.rows), omega (arith, on.columns))

pub place_inside : (w h v : ℕ) (a : Area) → OnPage w h a → v < pixel_count a → place w a v < w * h
place_inside w h v a on inside =
    let there = pixel_row w h v a on inside in
    mul-add-lt (a.top + v / a.width) w (a.left + v % a.width) h there.0 there.1

-- and so are its neighbours, where they are on the area
pub right_inside : (w h v : ℕ) (a : Area) → OnPage w h a → v < pixel_count a → v % a.width + 1 < a.width → place w a v + 1 < w * h
right_inside w h v a on inside more =
    let there = pixel_row w h v a on inside in
    omega (arith, mul-add-lt (a.top + v / a.width) w (a.left + v % a.width + 1) h there.0 (omega (arith, on.columns)))

pub below_inside : (w h v : ℕ) (a : Area) → OnPage w h a → v < pixel_count a → v / a.width + 1 < a.height → place w a v + w < w * h
below_inside w h v a on inside more =
    let there = pixel_row w h v a on inside in
    omega (arith, mul-add-lt (a.top + v / a.width + 1) w (a.left + v % a.width) h (omega (arith, on.rows)) there.1)

-- the neighbours on the area are the neighbours on the page
pub right_place : (w v : ℕ) (a : Area) → v % a.width + 1 < a.width → place w a (v + 1) ≡ place w a v + 1
right_place w v a more =
    let next : v + 1 ≡ v / a.width * a.width + (v % a.width + 1) = omega (arith, mod-add-div' v a.width) in
    let row : (v + 1) / a.width ≡ v / a.width = ap (λ k. k / a.width) next ∙ div-mul-add (v / a.width) a.width (v % a.width + 1) more in
    let column : (v + 1) % a.width ≡ v % a.width + 1 = ap (λ k. k % a.width) next ∙ mod-mul-add (v / a.width) a.width (v % a.width + 1) more in
    rw (row, column) (omega arith)

pub below_place : (w v : ℕ) (a : Area) → v % a.width < a.width → place w a (v + a.width) ≡ place w a v + w
below_place w v a inside =
    let next : v + a.width ≡ (v / a.width + 1) * a.width + v % a.width = omega (arith, mod-add-div' v a.width) in
    let row : (v + a.width) / a.width ≡ v / a.width + 1 = ap (λ k. k / a.width) next ∙ div-mul-add (v / a.width + 1) a.width (v % a.width) inside in
    let column : (v + a.width) % a.width ≡ v % a.width = ap (λ k. k % a.width) next ∙ mod-mul-add (v / a.width + 1) a.width (v % a.width) inside in
    rw (row, column) (omega arith)

-- the row and the column of a pixel on the page follow from its number there
rows_of : (w h v : ℕ) (a : Area) → OnPage w h a → v < pixel_count a → (place w a v / w ≡ a.top + v / a.width) × (place w a v % w ≡ a.left + v % a.width)
rows_of w h v a on inside =
    let there = pixel_row w h v a on inside in
    (div-mul-add (a.top + v / a.width) w (a.left + v % a.width) there.1, mod-mul-add (a.top + v / a.width) w (a.left + v % a.width) there.1)

-- and with them its number on the area
abbrev pixel_at : ℕ → Area → ℕ → ℕ
pixel_at w a p = (p / w - a.top) * a.width + (p % w - a.left)

which_pixel : (w h v : ℕ) (a : Area) → OnPage w h a → v < pixel_count a → v ≡ pixel_at w a (place w a v)
which_pixel w h v a on inside =
    let (down, across) = rows_of w h v a on inside in
    let (_, _, _, whole) = split_rows a.height a.width v (omega arith) in
    let row : place w a v / w - a.top ≡ v / a.width = omega arith in
    let column : place w a v % w - a.left ≡ v % a.width = omega arith in
    rw (row, column) (sym whole)

pub place_once : (w h v u : ℕ) (a : Area) → OnPage w h a → v < pixel_count a → u < pixel_count a → place w a v ≡ place w a u → v ≡ u
place_once w h v u a on inside other same = which_pixel w h v a on inside ∙ ap (pixel_at w a) same ∙ sym (which_pixel w h u a on other)

-- and the number of the area
abbrev area_at : ℕ → ℕ → ℕ
area_at w p = p / w / 64 * part_count w + p % w / 64

which_area : (w h t v : ℕ) → t < area_count w h → v < pixel_count (area_of w h t) → t ≡ area_at w (place w (area_of w h t) v)
which_area w h t v there inside =
    let a = area_of w h t in
    let on = area_inside w h t there in
    let (_, _, _, whole) = split_rows (part_count h) (part_count w) t (omega arith) in
    let (_, row, column, _) = split_rows a.height a.width v (omega arith) in
    let (down, across) = rows_of w h v a on inside in
    let rows : place w a v / w / 64 ≡ t / part_count w = rw down (div-mul-add (t / part_count w) 64 (v / a.width) (omega (arith, row, on.low))) in
    let columns : place w a v % w / 64 ≡ t % part_count w = rw across (div-mul-add (t % part_count w) 64 (v % a.width) (omega (arith, column, on.narrow))) in
    rw (rows, columns) (sym whole)

pub areas_apart : (w h t v s u : ℕ) → t < area_count w h → v < pixel_count (area_of w h t) → s < area_count w h → u < pixel_count (area_of w h s) → place w (area_of w h t) v ≡ place w (area_of w h s) u → t ≡ s
areas_apart w h t v s u there inside there_too inside_too same = which_area w h t v there inside ∙ ap (area_at w) same ∙ sym (which_area w h s u there_too inside_too)

stands_once : (w h p t v s u : ℕ) → StandsAt w h p t v → StandsAt w h p s u → (t ≡ s) × (v ≡ u)
stands_once w h p t v s u one other =
    let same : t ≡ s = areas_apart w h t v s u one.area one.pixel other.area other.pixel (one.place ∙ sym other.place) in
    let a = area_of w h t in
    let moved : (u < pixel_count a) × (place w a u ≡ p) = subst (λ k. (u < pixel_count (area_of w h k)) × (place w (area_of w h k) u ≡ p)) (sym same) (other.pixel, other.place) in
    (same, place_once w h v u a (area_inside w h t one.area) one.pixel moved.0 (one.place ∙ sym moved.1))

-- the area and the pixel of each number
stands : (w h p : ℕ) → p < w * h → (t : ℕ) × (v : ℕ) × StandsAt w h p t v
stands w h p there =
    let (_, row, column, whole) = split_rows h w p (omega arith) in
    let r = p / w / 64 in
    let c = p % w / 64 in
    let down : r < part_count h = omega arith in
    let across : c < part_count w = omega arith in
    let t = r * part_count w + c in
    let inside : t < area_count w h = mul-add-lt r (part_count w) c (part_count h) down across in
    let is_row : t / part_count w ≡ r = div-mul-add r (part_count w) c across in
    let is_column : t % part_count w ≡ c = mod-mul-add r (part_count w) c across in
    let a = area_of w h t in
    let top : a.top ≡ r * 64 = ap (λ k. k * 64) is_row in
    let left : a.left ≡ c * 64 = ap (λ k. k * 64) is_column in
    let wide : p % w - a.left < a.width = rw (is_column) (omega arith) in
    let tall : p / w - a.top < a.height = rw (is_row) (omega arith) in
    let v = pixel_at w a p in
    let above : v / a.width ≡ p / w - a.top = div-mul-add (p / w - a.top) a.width (p % w - a.left) wide in
    let before : v % a.width ≡ p % w - a.left = mod-mul-add (p / w - a.top) a.width (p % w - a.left) wide in
    let down_there : a.top + (p / w - a.top) ≡ p / w = omega (arith, top) in
    let across_there : a.left + (p % w - a.left) ≡ p % w = omega (arith, left) in (
      t,
      v,
      record {
        area = inside;
        pixel = omega (arith, mul-add-lt (p / w - a.top) a.width (p % w - a.left) a.height tall wide);
        place = rw (above, before, down_there, across_there) whole;
      },
    )

pub areas_part_pages : AreasPartPages
areas_part_pages w h p there = (stands w h p there, stands_once w h p)
