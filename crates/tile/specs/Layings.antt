-- The records that a lay writes.
use Rattle.std.specs.Prelude.{◌≡◌, ℕ, ◌<◌, cond, List, map}
use Rattle.tile.specs.declared.direction.Direction.{Direction}
use Rattle.tile.specs.declared.neighbours.Neighbours.{Neighbours}
use Rattle.tile.specs.declared.pixel.Pixel.{Pixel}
use Rattle.tile.specs.Grids.{directions}
use Rattle.tile.specs.Pixels.{has, Fresh}
use Rattle.tile.specs.Tables.{pixel_at, Known}
use Rattle.tile.specs.Tiles.{line, tone, penalty_to}

-- what can be sent at first from pixel v in a direction
abbrev pub first_residual : ℕ → List ℕ → ℕ → Neighbours → Direction → ℕ
first_residual w bs v m d = cond (has m d) (penalty_to w d bs v) 0

-- what the bytes tell of pixel v, which has these neighbours; line is the source's side of a cut, so tone is paid to the source
abbrev pub laid_pixel : ℕ → List ℕ → ℕ → Neighbours → Pixel
laid_pixel w bs v m = record { source = tone bs v; sink = line bs v; neighbours = m; residuals = map (first_residual w bs v m) directions }

-- x is the record of pixel v as the bytes tell it
pub record PixelLaid (w n : ℕ) (bs : List ℕ) (v : ℕ) (x : Pixel) : Type 0 where
  pub known : Known w n v x.neighbours
  pub is : x ≡ laid_pixel w bs v x.neighbours
  pub fresh : Fresh x

-- so are all n
abbrev pub AllLaid : ℕ → ℕ → List ℕ → List Pixel → Type 0
AllLaid w n bs pixels = (v : ℕ) → v < n → PixelLaid w n bs v (pixel_at pixels v)
