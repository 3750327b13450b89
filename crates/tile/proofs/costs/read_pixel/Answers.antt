use Rattle.tile.specs.declared.direction.Direction.TheVariants.{Left, Above}
use Rattle.tile.proofs.costs.read_pixel.Goals as goal

pub residual-requires-2-clause-there : goal.residual-requires-2-clause-there
residual-requires-2-clause-there c = c.requires.there Left

pub residual-requires-4-clause-there : goal.residual-requires-4-clause-there
residual-requires-4-clause-there c = c.requires.there Above
