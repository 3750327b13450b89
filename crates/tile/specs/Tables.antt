-- What the pixels of a table mean as a network.
use Rattle.std.specs.Prelude.{◌≡◌, ℕ, ◌+◌, ◌<◌, ◌≤◌, List, [], length, Some, slice_index_or}
use Rattle.network.specs.Nets.{Ends, Net}
use Rattle.tile.specs.declared.direction.Direction.{Direction}
use Rattle.tile.specs.declared.neighbours.Neighbours.{Neighbours}
use Rattle.tile.specs.declared.pixel.Pixel.{Pixel}
use Rattle.tile.specs.Pixels.{Small, has, terminal_of, residual_of}
use Rattle.tile.specs.Grids.{owner, direction_of, joined, grid}

-- past the pixels that are laid every residual is 0
abbrev pub no_pixel : Pixel
no_pixel = record { source = 0; sink = 0; neighbours = record { bits = 0 }; residuals = [] }

abbrev pub pixel_at : List Pixel → ℕ → Pixel
pixel_at pixels v = slice_index_or pixels v no_pixel

-- pixels in rows of w
abbrev pub of_pixels : ℕ → List Pixel → Net
of_pixels w pixels = record {
  graph = grid w (length pixels);
  terminal = λ t v. terminal_of (pixel_at pixels v) t;
  residual = λ a. residual_of (pixel_at pixels (owner a)) (direction_of a);
}

-- an arc and its reverse have two penalties of a byte between them
abbrev pub SmallPairs : Net → Type 0
SmallPairs v = (a : ℕ) (e : Ends) → v.graph.ends a ≡ Some e → v.residual a + v.residual e.reverse ≤ 510

-- m tells which neighbours pixel v has, of n pixels
abbrev pub Known : ℕ → ℕ → ℕ → Neighbours → Type 0
Known w n v m = (d : Direction) → has m d ≡ joined w n d v

-- what each pixel's record tells, of pixels that are laid in rows of w: small costs, and which neighbours it has
pub record Told (w : ℕ) (pixels : List Pixel) : Type 0 where
  pub small : (v : ℕ) → v < length pixels → Small (pixel_at pixels v)
  pub known : (v : ℕ) → v < length pixels → Known w (length pixels) v (pixel_at pixels v).neighbours
