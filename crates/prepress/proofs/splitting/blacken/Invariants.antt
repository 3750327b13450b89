use Rattle.prepress.specs.Cuts.{Blackened}
use Rattle.prepress.proofs.splitting.blacken.Given as goal

-- the pixels so far are written
abbrev pub invariant-loop-pixel : goal.invariant-loop-pixel
invariant-loop-pixel l = Blackened l.fn.width l.fn.area l.pixel l.fn.marks l.fn.black l.black
