-- What holds of a lay that is accepted.
use Rattle.std.specs.Prelude.{◌≡◌, ℕ, ◌*◌, ◌≤◌, false, List, length}
use Rattle.tile.specs.Refusals.{off_tile}

pub record Lays (w h : ℕ) (bs : List ℕ) (records : ℕ) : Type 0 where
  pub some_width : 1 ≤ w
  pub some_height : 1 ≤ h
  pub narrow : w ≤ 64
  pub low : h ≤ 64
  pub long : length bs ≡ 4 * (w * h)
  pub room : w * h ≤ records
  pub inside : off_tile w (w * h) bs ≡ false
