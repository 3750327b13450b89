-- What drafting a sheet answers.
use Rattle.std.specs.Prelude.{◌≡◌, ℕ, List, map, Ok, Err, Result, Vec, vec_items}
use Rattle.std.specs.declared.alloc.Global.{Global}
use Rattle.book.specs.Books.{Book}
use Rattle.filing.specs.Sheets.{sheet_of}
use Rattle.filing.specs.Writes.{LoadsBack}
use Rattle.joblist.specs.declared.refusal.JobRefusal.{JobRefusal}
use Rattle.joblist.specs.Entries.{entry_of}
use Rattle.joblist.specs.JobLists.{book_of_text}
use Rattle.joblist.specs.Lines.{lines_of}
use Rattle.joblist.specs.Names.{WellNamed}

-- the bytes of a sheet that was drafted
abbrev pub bytes_of : Result (Vec ℕ Global) JobRefusal → Result (List ℕ) JobRefusal
bytes_of (Ok sheet) = Ok (vec_items sheet)
bytes_of (Err x) = Err x

-- the text tells a book, and the bytes bs are the sheet of it, which loads back
pub record SheetOfText (text bs : List ℕ) : Type 0 where
  pub book : Book
  pub told : book_of_text text ≡ Ok book
  pub sheet : bs ≡ sheet_of book
  pub back : LoadsBack book bs
  pub names : WellNamed (map entry_of (lines_of text)) book

-- the answer to a text: its sheet, or its refusal
abbrev pub Drafted : List ℕ → Result (List ℕ) JobRefusal → Type 0
Drafted text (Ok bs) = SheetOfText text bs
Drafted text (Err x) = book_of_text text ≡ Err x
