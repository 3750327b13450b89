use Rattle.std.proofs.Common.{◌≡◌, ◌-◌, length}
use Rattle.sheet.specs.Readers.{sheet_of, cursor}
use Rattle.sheet.proofs.Passes.{Counting}
use Rattle.sheet.proofs.whole.count.Given as goal

abbrev pub invariant-loop-found : goal.invariant-loop-found
invariant-loop-found l = (sheet_of l.reader ≡ l.sheet) × Counting l.sheet (cursor l.reader) l.counts l.highest

abbrev pub decreases-loop-found : goal.decreases-loop-found
decreases-loop-found l = length l.sheet - l.reader.at
