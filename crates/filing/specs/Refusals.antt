-- What a refusal of a load or of a write tells.
use Rattle.std.specs.Prelude.{ℕ}
use Rattle.sheet.specs.declared.refusal.Told.{Told}
use Rattle.sheet.specs.Refusals.{told as sheet_told}
use Rattle.filing.specs.declared.refusal.LoadRefusal.{LoadRefusal}
use Rattle.filing.specs.declared.refusal.LoadRefusal.TheVariants.{HasEntries, Sheet, ShortTable}
use Rattle.filing.specs.declared.refusal.WriteRefusal.{WriteRefusal}
use Rattle.filing.specs.declared.refusal.WriteRefusal.TheVariants.{ShortBuffer}

-- the question's number, and the number and first byte of the record that it is about: one about the book or the table tells the first
abbrev pub told : LoadRefusal → Told
told HasEntries = record { number = 10; «record» = 0; byte = 0 }
told (Sheet x) = sheet_told x
told ShortTable = record { number = 19; «record» = 0; byte = 0 }

-- the number of the question whose answer is no
abbrev pub question : WriteRefusal → ℕ
question ShortBuffer = 20
