use Rattle.std.proofs.Common.{map}
use Rattle.book.specs.Values.{open_of}
use Rattle.joblist.proofs.NameByName.{NamesEntered}
use Rattle.joblist.specs.Passes.{value_of}
use Rattle.joblist.proofs.filling.enter_needs.Given as goal

-- the names so far are entered
abbrev pub invariant-loop-place : goal.invariant-loop-place
invariant-loop-place l = NamesEntered (map value_of l.entries) l.number l.place (open_of l.fn.book) (open_of l.book)
