use Rattle.std.proofs.Common.{◌≡◌, ◌-◌, List, length}
use Rattle.sheet.specs.Answers.{SheetOf}
use Rattle.sheet.specs.Format.{Entry}
use Rattle.sheet.specs.Readers.{sheet_of, cursor}
use Rattle.book.specs.Values.{open_of}
use Rattle.filing.proofs.Entering.{EntriesRead}
use Rattle.filing.proofs.loading.enter_all.Given as goal

abbrev pub invariant-loop-found : goal.invariant-loop-found
invariant-loop-found l = (sheet_of l.reader ≡ l.sheet) × ((es : List Entry) → SheetOf l.sheet es → EntriesRead l.sheet es (cursor l.reader) (open_of l.fn.book) (open_of l.book))

abbrev pub decreases-loop-found : goal.decreases-loop-found
decreases-loop-found l = length l.sheet - (cursor l.reader).at
