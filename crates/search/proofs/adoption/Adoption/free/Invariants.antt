use Rattle.std.proofs.Common.{ℕ}
use Rattle.search.specs.Readings.{Stands}
use Rattle.search.specs.Tables.{forest_of}
use Rattle.search.proofs.Freeing.{Freeing}
use Rattle.search.proofs.adoption.Adoption.free.Given as goal

-- the places below the iterator's are done
abbrev pub invariant-loop-next : goal.invariant-loop-next
invariant-loop-next g l = (k : ℕ) × Stands l.self.net.now l.self.terminal l.node k l.next-iterator × Freeing (g.N.Network.value l.self.net.now) l.self.terminal l.node k (forest_of l.initial.table) (forest_of l.table)
