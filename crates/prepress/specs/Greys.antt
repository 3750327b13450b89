-- What pixels cost by their grey values, from 0 for black to 255 for white, and what is laid of an area of a page.
use Rattle.std.specs.Prelude.{ℕ, ◌+◌, ◌-◌, ◌/◌, cond, List, [], ◌∷◌, slice_index}
use Rattle.std.specs.List.{flat_map, range_with_len}
use Rattle.std.specs.Int.{abs_diff}
use Rattle.netpbm.specs.Images.{Image}
use Rattle.prepress.specs.declared.area.Area.{Area}
use Rattle.prepress.specs.Areas.{pixel_count, place, has_right, has_below}

-- what a pixel of this grey costs as line
abbrev pub line_cost : ℕ → ℕ
line_cost g = g

-- what it costs as tone
abbrev pub tone_cost : ℕ → ℕ
tone_cost g = 255 - g

-- the penalty where neighbours of these greys differ: from 0 between black and white to 63 between greys that are alike
abbrev pub penalty : ℕ → ℕ → ℕ
penalty g h = (255 - abs_diff g h) / 4

-- the grey of the pixel that has this number on its page
abbrev pub grey : Image → ℕ → ℕ
grey i p = slice_index i.greys p

-- and that of pixel v of an area of it
abbrev pub grey_of : Image → Area → ℕ → ℕ
grey_of i a v = grey i (place i.width a v)

-- the four costs of pixel v of an area, by its grey and those of its neighbours at the right and below, where these are on the area
abbrev pub pixel_costs : Image → Area → ℕ → List ℕ
pixel_costs i a v =
    let p = place i.width a v in
    line_cost (grey i p)
    ∷ tone_cost (grey i p)
    ∷ cond (has_right a v) (penalty (grey i p) (grey i (p + 1))) 0
    ∷ cond (has_below a v) (penalty (grey i p) (grey i (p + i.width))) 0
    ∷ []

-- those of all its pixels
abbrev pub area_costs : Image → Area → List ℕ
area_costs i a = flat_map (pixel_costs i a) (range_with_len 0 (pixel_count a))
