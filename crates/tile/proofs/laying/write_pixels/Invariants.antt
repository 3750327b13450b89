use Rattle.std.proofs.Common.{◌≡◌, ℕ, ◌%◌, ◌<◌, length}
use Rattle.tile.specs.Layings.{PixelLaid}
use Rattle.tile.specs.Tables.{pixel_at}
use Rattle.tile.proofs.laying.write_pixels.Given as goal

-- those written so far, and the column of the next one
abbrev pub invariant-loop-number : goal.invariant-loop-number
invariant-loop-number l = (l.column ≡ l.number % l.width) × (length l.pixels ≡ length l.fn.pixels) × ((v : ℕ) → v < l.number → PixelLaid l.width (length l.fn.pixels) l.costs v (pixel_at l.pixels v))
