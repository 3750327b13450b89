use Rattle.std.proofs.Common.{ℕ}
use Rattle.search.specs.Readings.{Stands}
use Rattle.search.proofs.adoption.Adoption.find_parent.Given as goal

abbrev pub invariant-loop-next : goal.invariant-loop-next
invariant-loop-next g l = (k : ℕ) × Stands l.self.net.now l.self.terminal l.node k l.next-iterator
