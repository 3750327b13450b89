-- How an area of a page, and the whole page, are split into lines and tones.
use Rattle.std.specs.Prelude.{◌≡◌, ℕ, ◌+◌, ◌*◌, ◌<◌, ◌≤◌, Bool, cond, true, false, ◌&&◌, List, length, nat_lt, slice_index_or}
use Rattle.network.specs.declared.mark.Mark.{Mark}
use Rattle.network.specs.declared.mark.Mark.TheVariants.{In, Out, Either}
use Rattle.network.specs.Cuts.{Selection, sum_below}
use Rattle.tile.specs.Tiles.{energy, differ}
use Rattle.netpbm.specs.Images.{Image}
use Rattle.prepress.specs.declared.area.Area.{Area}
use Rattle.prepress.specs.Areas.{area_count, area_of, pixel_count, place, has_right, has_below}
use Rattle.prepress.specs.Greys.{line_cost, tone_cost, penalty, grey_of, area_costs}

-- what a selection of an area's pixels as lines costs, as it is laid on a tile; EnergyAddsUp says what that comes to
abbrev pub area_energy : Image → Area → Selection → ℕ
area_energy i a X = energy a.width a.height (area_costs i a) X

-- the cost of each pixel, as line or as tone
abbrev pub costs_of : Image → Area → Selection → ℕ
costs_of i a X = sum_below (pixel_count a) (λ v. cond (X v) (line_cost (grey_of i a v)) (tone_cost (grey_of i a v)))

-- the penalty of each pixel and its neighbour at the right, where it has one and one of the two is line and the other tone
abbrev pub penalties_right : Image → Area → Selection → ℕ
penalties_right i a X = sum_below (pixel_count a) (λ v. cond (has_right a v && differ (X v) (X (v + 1))) (penalty (grey_of i a v) (grey_of i a (v + 1))) 0)

-- the same of its neighbour below
abbrev pub penalties_below : Image → Area → Selection → ℕ
penalties_below i a X = sum_below (pixel_count a) (λ v. cond (has_below a v && differ (X v) (X (v + a.width))) (penalty (grey_of i a v) (grey_of i a (v + a.width))) 0)

-- these together are the energy of every selection of every area
abbrev pub EnergyAddsUp : Image → Type 0
EnergyAddsUp i = (a : Area) (X : Selection) → area_energy i a X ≡ costs_of i a X + penalties_right i a X + penalties_below i a X

abbrev pub LeastEnergy : Image → Area → Selection → Type 0
LeastEnergy i a X = (Y : Selection) → area_energy i a X ≤ area_energy i a Y

-- of all selections of least energy the one with the fewest lines: what is line in it is line in each of them
pub record BestSplit (i : Image) (a : Area) (X : Selection) : Type 0 where
  pub least : LeastEnergy i a X
  pub fewest : (Y : Selection) (v : ℕ) → LeastEnergy i a Y → v < pixel_count a → X v ≡ true → Y v ≡ true

-- a pixel that may as well be tone is tone
abbrev pub is_line : Mark → Bool
is_line In = true
is_line Out = false
is_line Either = false

-- which pixels of an area are lines by their marks
abbrev pub lines : List Mark → Selection
lines marks v = is_line (slice_index_or marks v Out)

-- which pixels of area t of a page are lines, where black tells it of all pixels of the page
abbrev pub on_area : Image → List Bool → ℕ → Selection
on_area i black t v = let a = area_of i.width i.height t in nat_lt v (pixel_count a) && slice_index_or black (place i.width a v) false

-- a page is split on n tiles, for the energy e: each area for the least energy, with the fewest lines
pub record SplitOf (i : Image) (black : List Bool) (n e : ℕ) : Type 0 where
  pub tiles : n ≡ area_count i.width i.height
  pub whole : length black ≡ i.width * i.height
  pub best : (t : ℕ) → t < n → BestSplit i (area_of i.width i.height t) (on_area i black t)
  pub energy : e ≡ sum_below n (λ t. area_energy i (area_of i.width i.height t) (on_area i black t))

-- there is no other split of the page
abbrev pub OnlySplit : Image → List Bool → ℕ → ℕ → Type 0
OnlySplit i black n e = (other : List Bool) (m k : ℕ) → SplitOf i other m k → (other ≡ black) × (m ≡ n) × (k ≡ e)
