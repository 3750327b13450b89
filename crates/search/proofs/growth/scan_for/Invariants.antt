use Rattle.std.proofs.Common.{ℕ}
use Rattle.search.specs.Readings.{Stands}
use Rattle.search.specs.Tables.{forest_of}
use Rattle.search.proofs.Scanning.{Scanning}
use Rattle.search.proofs.growth.scan_for.Given as goal

-- the places below the iterator's are done
abbrev pub invariant-loop-next : goal.invariant-loop-next
invariant-loop-next g l = (k : ℕ) × Stands l.net l.terminal l.node k l.next-iterator × Scanning (g.N.Network.value l.net) l.terminal l.node k (forest_of l.initial.table) (forest_of l.table)
