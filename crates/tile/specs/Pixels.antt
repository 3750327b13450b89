-- One pixel's record: which neighbours it has, its residuals by terminal and by direction, and how they change.
use Rattle.std.specs.Prelude.{◌≡◌, ℕ, ◌/◌, ◌%◌, ◌^◌, ◌≤◌, Bool, length, ◌==◌, slice_index, slice_set}
use Rattle.network.specs.declared.terminal.Terminal.{Terminal}
use Rattle.network.specs.declared.terminal.Terminal.TheVariants.{Source, Sink}
use Rattle.tile.specs.declared.direction.Direction.{Direction}
use Rattle.tile.specs.declared.neighbours.Neighbours.{Neighbours}
use Rattle.tile.specs.declared.pixel.Pixel.{Pixel}
use Rattle.tile.specs.Grids.{number}

-- whether there is a neighbour in a direction: the bit of its number
abbrev pub has : Neighbours → Direction → Bool
has x d = (x.bits / 2 ^ number d) % 2 == 1

abbrev pub terminal_of : Pixel → Terminal → ℕ
terminal_of x Source = x.source
terminal_of x Sink = x.sink

-- x with another terminal residual
abbrev pub put_terminal : Pixel → Terminal → ℕ → Pixel
put_terminal x Source r = record x { source = r }
put_terminal x Sink r = record x { sink = r }

abbrev pub residual_of : Pixel → Direction → ℕ
residual_of x d = slice_index x.residuals (number d)

-- x with another residual in a direction
abbrev pub put_residual : Pixel → Direction → ℕ → Pixel
put_residual x d r = record x { residuals = slice_set x.residuals (number d) r }

-- costs are bytes, and there is a residual for each direction
abbrev pub Small : Pixel → Type 0
Small x = (x.source ≤ 255) × (x.sink ≤ 255) × (length x.residuals ≡ 4)

-- nothing of it was sent yet: costs and penalties are bytes
abbrev pub Fresh : Pixel → Type 0
Fresh x = (x.source ≤ 255) × (x.sink ≤ 255) × ((d : Direction) → residual_of x d ≤ 255)
