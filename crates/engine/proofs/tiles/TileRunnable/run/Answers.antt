use Rattle.engine.proofs.Histories.{tile_promised}
use Rattle.engine.proofs.tiles.TileRunnable.run.Goals as goal

pub returns-clause-promise : goal.returns-clause-promise
returns-clause-promise c = tile_promised _ _ _ _ c.run.ensures.promise
