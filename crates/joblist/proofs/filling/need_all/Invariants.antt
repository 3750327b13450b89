use Rattle.std.proofs.Common.{map}
use Rattle.book.specs.Values.{open_of}
use Rattle.joblist.proofs.NeedsByEntry.{NeedsSoFar}
use Rattle.joblist.specs.Passes.{value_of}
use Rattle.joblist.proofs.filling.need_all.Given as goal

-- what the entries so far need is entered
abbrev pub invariant-loop-number : goal.invariant-loop-number
invariant-loop-number l = NeedsSoFar (map value_of l.entries) l.number (open_of l.fn.book) (open_of l.book)
