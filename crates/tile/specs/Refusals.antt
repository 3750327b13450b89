-- When a tile refuses a lay, and the numbers of the refusals.
use Rattle.std.specs.Prelude.{ℕ, ◌*◌, Bool, cond, not, ◌&&◌, ◌||◌, List, length, Some, None, Option, ◌==◌, nat_le, nat_lt}
use Rattle.std.specs.List.{list_any, range_with_len}
use Rattle.tile.specs.declared.refusal.LayRefusal.{LayRefusal}
use Rattle.tile.specs.declared.refusal.LayRefusal.TheVariants.{WrongSize, WrongLength, ShortTable, PenaltyOffTile}
use Rattle.tile.specs.declared.direction.Direction.{Direction}
use Rattle.tile.specs.declared.direction.Direction.TheVariants.{Right, Below}
use Rattle.tile.specs.Grids.{joined}
use Rattle.tile.specs.Tiles.{penalty_to}

-- the number of the question whose answer is no
abbrev pub question : LayRefusal → ℕ
question WrongSize = 21
question WrongLength = 22
question ShortTable = 23
question PenaltyOffTile = 24

-- a side has from 1 to 64 pixels
abbrev pub sized : ℕ → Bool
sized w = nat_le 1 w && nat_le w 64

-- whether there is a penalty between pixel v and one that is not on a tile of n pixels in rows of w
abbrev pub penalty_off : ℕ → ℕ → List ℕ → Direction → ℕ → Bool
penalty_off w n bs d v = nat_lt 0 (penalty_to w d bs v) && not (joined w n d v)

-- whether any pixel tells such a penalty
abbrev pub off_tile : ℕ → ℕ → List ℕ → Bool
off_tile w n bs = list_any (λ v. penalty_off w n bs Right v || penalty_off w n bs Below v) (range_with_len 0 n)

-- the first question whose answer is no: a tile of this size and these bytes, over a table of so many records
abbrev pub lay_refusal : ℕ → ℕ → List ℕ → ℕ → Option LayRefusal
lay_refusal w h bs records =
    cond (not (sized w && sized h)) (Some WrongSize) (cond (not (length bs == 4 * (w * h))) (Some WrongLength) (cond (nat_lt records (w * h)) (Some ShortTable) (cond (off_tile w (w * h) bs) (Some PenaltyOffTile) None)))
