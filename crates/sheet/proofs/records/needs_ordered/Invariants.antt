use Rattle.std.proofs.Common.{ℕ, ◌<◌}
use Rattle.sheet.specs.Layout.{InOrder}
use Rattle.sheet.proofs.records.needs_ordered.Given as goal

abbrev pub invariant-loop-j : goal.invariant-loop-j
invariant-loop-j l = (k : ℕ) → k < l.j → InOrder l.sheet l.found.needs l.found.number k
