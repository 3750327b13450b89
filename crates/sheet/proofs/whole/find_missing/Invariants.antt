use Rattle.std.proofs.Common.{◌≡◌, ◌-◌, length}
use Rattle.sheet.specs.Readers.{sheet_of, cursor}
use Rattle.sheet.proofs.Passes.{Checking}
use Rattle.sheet.proofs.whole.find_missing.Given as goal

abbrev pub invariant-loop-found : goal.invariant-loop-found
invariant-loop-found l = (sheet_of l.reader ≡ l.sheet) × Checking l.sheet l.counts.entries (cursor l.reader)

abbrev pub decreases-loop-found : goal.decreases-loop-found
decreases-loop-found l = length l.sheet - l.reader.at
