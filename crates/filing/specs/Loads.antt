-- What loading a sheet into an open book answers, and what it leaves.
use Rattle.std.specs.Prelude.{◌≡◌, ℕ, ◌<◌, ◌≤◌, List, [], length, Ok, Err, Result}
use Rattle.sheet.specs.declared.Counts.{Counts}
use Rattle.sheet.specs.Format.{Entry}
use Rattle.sheet.specs.Sound.{counts}
use Rattle.sheet.specs.Answers.{SheetOf, Answers}
use Rattle.book.specs.Calls.{Open, used, Spared}
use Rattle.filing.specs.declared.refusal.LoadRefusal.{LoadRefusal}
use Rattle.filing.specs.declared.refusal.LoadRefusal.TheVariants.{HasEntries, Sheet, ShortTable}
use Rattle.filing.specs.Books.{book_of}

-- the sheet bs stands for a list whose book has no room in the table
pub record TooShort (s : Open) (bs : List ℕ) : Type 0 where
  pub entries : List Entry
  pub sheet : SheetOf bs entries
  pub short : length s.table.now < used (book_of entries)

-- the book t is that of the sheet bs, with these counts, in the table of s, whose other records are as they were
pub record AllLoaded (s : Open) (bs : List ℕ) (c : Counts) (t : Open) : Type 0 where
  pub entries : List Entry
  pub sheet : SheetOf bs entries
  pub are : c ≡ counts entries
  pub room : used (book_of entries) ≤ length s.table.now
  pub book : t.book ≡ book_of entries
  pub spared : Spared t.book s.table t.table

-- the sheet bs is loaded into the book s, which then is t: all of it, or refused by the first question whose answer is no, which leaves
-- everything
abbrev pub Loaded : Open → List ℕ → Result Counts LoadRefusal → Open → Type 0
Loaded s bs (Err HasEntries) t = (0 < length s.book.entries) × (t ≡ s)
Loaded s bs (Err (Sheet x)) t = (s.book.entries ≡ []) × Answers bs (Err x) × (t ≡ s)
Loaded s bs (Err ShortTable) t = (s.book.entries ≡ []) × TooShort s bs × (t ≡ s)
Loaded s bs (Ok c) t = (s.book.entries ≡ []) × AllLoaded s bs c t
