-- What writing an open book's sheet answers, what it leaves of the buffer, and that the sheet loads back.
use Rattle.std.specs.Prelude.{◌≡◌, ℕ, ◌<◌, ◌≤◌, List, ◌++◌, length, drop, Ok, Err, Result}
use Rattle.std.specs.Borrow.{MutBor}
use Rattle.sheet.specs.declared.Counts.{Counts}
use Rattle.book.specs.declared.record.Record.{Record}
use Rattle.book.specs.Books.{Book}
use Rattle.book.specs.Calls.{Open, new_book, used}
use Rattle.filing.specs.declared.refusal.LoadRefusal.{LoadRefusal}
use Rattle.filing.specs.declared.refusal.WriteRefusal.{WriteRefusal}
use Rattle.filing.specs.declared.refusal.WriteRefusal.TheVariants.{ShortBuffer}
use Rattle.filing.specs.Loads.{Loaded}
use Rattle.filing.specs.Sheets.{sheet_of, SameBook}

-- the sheet of the book b is written into a buffer: refused exactly when it is longer, which leaves the buffer, or put into the front of it,
-- which leaves what follows
abbrev pub Written : Book → List ℕ → Result ℕ WriteRefusal → List ℕ → Type 0
Written b before (Err ShortBuffer) after = (length before < length (sheet_of b)) × (after ≡ before)
Written b before (Ok n) after = (n ≡ length (sheet_of b)) × (n ≤ length before) × (after ≡ sheet_of b ++ drop n before)

-- a book that is the same as b has the same sheet
abbrev pub OneSheet : Book → Type 0
OneSheet b = (c : Book) → SameBook c b → sheet_of c ≡ sheet_of b

-- a load answered r and left t: it was accepted, with as many entries and needs as b has, and t is the same book
pub record LoadedAs (b : Book) (r : Result Counts LoadRefusal) (t : Open) : Type 0 where
  pub accepted : r ≡ Ok (record { entries = length b.entries; needs = length b.needs })
  pub same : SameBook t.book b

-- where b has entries, each load of the sheet bs into a new book over a table that is long enough is such a one
abbrev pub LoadsBack : Book → List ℕ → Type 0
LoadsBack b bs = 0 < length b.entries → (table : MutBor (List Record)) → used b ≤ length table.now → (r : Result Counts LoadRefusal) (t : Open) → Loaded (new_book table) bs r t → LoadedAs b r t
