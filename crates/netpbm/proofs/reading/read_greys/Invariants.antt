use Rattle.std.proofs.Common.{vec_items}
use Rattle.netpbm.specs.Passes.{the_header}
use Rattle.netpbm.proofs.Samples.{GreysRead}
use Rattle.netpbm.proofs.reading.read_greys.Given as goal

-- the greys of the pixels so far are read
abbrev pub invariant-loop-pixel : goal.invariant-loop-pixel
invariant-loop-pixel l = GreysRead (the_header l.header) l.pixel l.rest (vec_items l.greys)
