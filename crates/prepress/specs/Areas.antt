-- How a page is divided into areas of at most 64 by 64 pixels, row by row from the top.
use Rattle.std.specs.Prelude.{◌≡◌, ℕ, ◌+◌, ◌-◌, ◌*◌, ◌/◌, ◌%◌, ◌<◌, ◌≤◌, min, Bool, nat_lt}
use Rattle.std.specs.Int.{div_ceil}
use Rattle.prepress.specs.declared.area.Area.{Area}

-- how many parts of 64 pixels, the last of them maybe shorter, a side of so many pixels is divided into
abbrev pub part_count : ℕ → ℕ
part_count side = div_ceil side 64

-- how many pixels part k of it has
abbrev pub part_length : ℕ → ℕ → ℕ
part_length side k = min 64 (side - k * 64)

-- how many areas a page w wide and h high has
abbrev pub area_count : ℕ → ℕ → ℕ
area_count w h = part_count w * part_count h

-- area t of it
abbrev pub area_of : ℕ → ℕ → ℕ → Area
area_of w h t = let row = t / part_count w in let column = t % part_count w in record {
  top = row * 64;
  left = column * 64;
  width = part_length w column;
  height = part_length h row;
}

-- how many pixels an area has
abbrev pub pixel_count : Area → ℕ
pixel_count a = a.width * a.height

-- the number that pixel v of an area has on a page w wide
abbrev pub place : ℕ → Area → ℕ → ℕ
place w a v = (a.top + v / a.width) * w + (a.left + v % a.width)

-- whether pixel v has a neighbour at the right on the area, v + 1, and one below, v + a.width
abbrev pub has_right : Area → ℕ → Bool
has_right a v = nat_lt (v % a.width + 1) a.width

abbrev pub has_below : Area → ℕ → Bool
has_below a v = nat_lt (v / a.width + 1) a.height

-- an area has pixels, at most 64 by 64, and lies on a page w wide and h high
pub record OnPage (w h : ℕ) (a : Area) : Type 0 where
  pub some_columns : 0 < a.width
  pub some_rows : 0 < a.height
  pub narrow : a.width ≤ 64
  pub low : a.height ≤ 64
  pub columns : a.left + a.width ≤ w
  pub rows : a.top + a.height ≤ h

-- pixel v of area t is pixel p of a page w wide and h high
pub record StandsAt (w h p t v : ℕ) : Type 0 where
  pub area : t < area_count w h
  pub pixel : v < pixel_count (area_of w h t)
  pub place : place w (area_of w h t) v ≡ p

-- each pixel of a page is a pixel of an area, and of one only
abbrev pub AreasPartPages : Type 0
AreasPartPages = (w h p : ℕ) → p < w * h → ((t : ℕ) × (v : ℕ) × StandsAt w h p t v) × ((t v s u : ℕ) → StandsAt w h p t v → StandsAt w h p s u → (t ≡ s) × (v ≡ u))
