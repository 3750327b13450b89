use Rattle.std.proofs.Common.{◌≡◌, ℕ, ◌%◌, ◌<◌, ◌||◌, false}
use Rattle.tile.specs.declared.direction.Direction.TheVariants.{Right, Below}
use Rattle.tile.specs.Refusals.{penalty_off}
use Rattle.tile.proofs.refusal.is_off_tile.Given as goal

-- no pixel so far tells such a penalty
abbrev pub invariant-loop-pixel : goal.invariant-loop-pixel
invariant-loop-pixel l = (l.column ≡ l.pixel % l.width) × ((v : ℕ) → v < l.pixel → (penalty_off l.width l.pixels l.costs Right v || penalty_off l.width l.pixels l.costs Below v) ≡ false)
