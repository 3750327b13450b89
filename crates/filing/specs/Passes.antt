-- What the inner functions of loading agree on, and those of drafting a job list.
use Rattle.std.specs.Prelude.{◌≡◌, ℕ, ◌+◌, ◌*◌, ◌<◌, ◌≤◌, List, [], ◌++◌, map, length}
use Rattle.std.specs.List.{AllByRecursion}
use Rattle.sheet.specs.Format.{Entry}
use Rattle.sheet.specs.Sound.{Ordered}
use Rattle.sheet.specs.Answers.{SheetOf}
use Rattle.book.specs.Books.{Book, needs_of}
use Rattle.book.specs.Calls.{Open, used, Spared}
use Rattle.filing.specs.Books.{amounts_of, needs_by, book_of}

-- the sheet bs stands for a list, whose book has room in the table
pub record Fitting (bs : List ℕ) (s : Open) : Type 0 where
  pub entries : List Entry
  pub sheet : SheetOf bs entries
  pub room : used (book_of entries) ≤ length s.table.now

-- the book of these entries before their needs are entered
abbrev pub entries_alone : List Entry → Book
entries_alone es = record { entries = map amounts_of es; needs = [] }

-- b in which u needs these too
abbrev pub with_needs : Book → ℕ → List ℕ → Book
with_needs b u ns = record { entries = b.entries; needs = b.needs ++ needs_by u ns }

-- t is the book b, in the table of s, whose other records are as they were
pub record Filled (b : Book) (s t : Open) : Type 0 where
  pub book : t.book ≡ b
  pub spared : Spared b s.table t.table

-- u needs none so far, and may need these
pub record NeedsFit (s : Open) (u : ℕ) (ns : List ℕ) : Type 0 where
  pub there : u < length s.book.entries
  pub all_there : AllByRecursion (λ w. w < length s.book.entries) ns
  pub ordered : Ordered u ns
  pub few : length ns ≤ 4
  pub none : needs_of u s.book.needs ≡ []
  pub room : used s.book + 2 * length ns ≤ length s.table.now
