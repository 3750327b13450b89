-- What a cut of an area tells.
use Rattle.std.specs.Prelude.{◌≡◌, ℕ, ◌*◌, ◌<◌, ◌≤◌, ◌≢◌, Bool, false, List, length, slice_index, slice_index_or}
use Rattle.network.specs.declared.mark.Mark.{Mark}
use Rattle.netpbm.specs.Images.{Image}
use Rattle.prepress.specs.declared.area.Area.{Area}
use Rattle.prepress.specs.Areas.{pixel_count, place}
use Rattle.prepress.specs.Splits.{area_energy, BestSplit, lines}

-- no number is above 255
abbrev pub Bytes : List ℕ → Type 0
Bytes bs = (k : ℕ) → slice_index bs k ≤ 255

-- the marks of an area's pixels tell its best split, of this energy
pub record AreaCut (i : Image) (a : Area) (e : ℕ) (marks : List Mark) : Type 0 where
  pub best : BestSplit i a (lines marks)
  pub energy : e ≡ area_energy i a (lines marks)
  pub whole : length marks ≡ pixel_count a
  -- a pixel costs 255 at most
  pub small : e ≤ 255 * pixel_count a

-- which of the first k pixels of an area are lines is written on a page w wide, and other pixels are as they were
pub record Blackened (w : ℕ) (a : Area) (k : ℕ) (marks : List Mark) (before after : List Bool) : Type 0 where
  pub whole : length after ≡ length before
  pub written : (v : ℕ) → v < k → slice_index_or after (place w a v) false ≡ lines marks v
  pub others : (p : ℕ) → ((v : ℕ) → v < k → place w a v ≢ p) → slice_index_or after p false ≡ slice_index_or before p false
