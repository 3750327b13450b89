use Rattle.std.proofs.Common.{take}
use Rattle.sheet.specs.Places.{entry_at}
use Rattle.sheet.specs.Readers.{sheet_of}
use Rattle.book.specs.Values.{open_of}
use Rattle.filing.specs.Passes.{Filled, with_needs}
use Rattle.filing.proofs.loading.enter_needs.Given as goal

abbrev pub invariant-loop-j : goal.invariant-loop-j
invariant-loop-j l = Filled (with_needs (open_of l.fn.book).book l.found.number (take l.j (entry_at (sheet_of l.reader) l.found).needs)) (open_of l.fn.book) (open_of l.book)
