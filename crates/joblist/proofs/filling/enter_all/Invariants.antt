use Rattle.std.proofs.Common.{map, take}
use Rattle.book.specs.Values.{open_of}
use Rattle.filing.specs.Passes.{Filled}
use Rattle.joblist.specs.Passes.{value_of, with_entries}
use Rattle.joblist.proofs.filling.enter_all.Given as goal

-- the entries so far are entered
abbrev pub invariant-loop-entry : goal.invariant-loop-entry
invariant-loop-entry l = Filled (with_entries (take l.entry-index (map value_of l.entries))) (open_of l.fn.book) (open_of l.book)
