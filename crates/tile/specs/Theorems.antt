-- What is proved of the grid of every tile.
use Rattle.std.specs.Prelude.{◌≡◌, ℕ, ◌+◌, ◌*◌, ◌<◌, nat_lt}
use Rattle.tile.specs.declared.direction.Direction.TheVariants.{Right, Left, Below, Above}
use Rattle.tile.specs.Grids.{neighbour, joined}

-- the number of pixel x of row y
abbrev pub pixel_number : ℕ → ℕ → ℕ → ℕ
pixel_number w x y = y * w + x

-- pixel x of row y has a neighbour at its right where its row goes on, one below where there is another row, and so to the left and up
pub record HasNeighbours (w h x y : ℕ) : Type 0 where
  pub right : joined w (w * h) Right (pixel_number w x y) ≡ nat_lt (x + 1) w
  pub left : joined w (w * h) Left (pixel_number w x y) ≡ nat_lt 0 x
  pub below : joined w (w * h) Below (pixel_number w x y) ≡ nat_lt (y + 1) h
  pub above : joined w (w * h) Above (pixel_number w x y) ≡ nat_lt 0 y
  -- which these are
  pub to_right : neighbour w Right (pixel_number w x y) ≡ pixel_number w (x + 1) y
  pub to_left : neighbour w Left (pixel_number w (x + 1) y) ≡ pixel_number w x y
  pub to_below : neighbour w Below (pixel_number w x y) ≡ pixel_number w x (y + 1)
  pub to_above : neighbour w Above (pixel_number w x (y + 1)) ≡ pixel_number w x y

abbrev pub JoinsNeighbours : Type 0
JoinsNeighbours = (w h x y : ℕ) → x < w → y < h → HasNeighbours w h x y
