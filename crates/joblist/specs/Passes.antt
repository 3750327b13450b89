-- What the inner functions of a job list agree on.
use Rattle.std.specs.Prelude.{◌≡◌, ℕ, ◌<◌, ◌≤◌, cond, nat_lt, Some, None, Ok, Err, Option, Result, List, [], map, length, take, vec_items, Vec, slice_index_or}
use Rattle.std.specs.declared.alloc.Global.{Global}
use Rattle.std.specs.Str.Parse.{digits_value}
use Rattle.book.specs.Books.{Book}
use Rattle.book.specs.Calls.{Open}
use Rattle.filing.specs.Books.{needs_from}
use Rattle.filing.specs.Passes.{Filled, with_needs}
use Rattle.filing.specs.Sheets.{sheet_of}
use Rattle.filing.specs.Writes.{LoadsBack}
use Rattle.joblist.specs.declared.entry.Entry.{Entry as TheEntry}
use Rattle.joblist.specs.declared.refusal.Fault.{Fault}
use Rattle.joblist.specs.declared.refusal.JobRefusal.{JobRefusal}
use Rattle.joblist.specs.Amounts.{is_amount}
use Rattle.joblist.specs.Lines.{Line}
use Rattle.joblist.specs.Entries.{Entry, no_entry, entry_of}
use Rattle.joblist.specs.Faults.{line_fault, number_of}
use Rattle.joblist.specs.JobLists.{first_below, line_refusal, name_fault, needs_refusal, numbers, book_of, book_of_entries}

-- the amount that a word tells
abbrev pub amount_of : List ℕ → Option ℕ
amount_of word = cond (is_amount word) (Some (digits_value 10 word)) None

-- the entry that the code holds
abbrev pub value_of : TheEntry → Entry
value_of e = record {
  line = e.line;
  name = e.name.now;
  amounts = record { earning = e.earning; cost = e.cost };
  needs = map (λ name. name.now) (vec_items e.needs);
}

-- the line l is read, where these entries stand on the lines before it
abbrev pub LineRead : List Entry → Line → Result TheEntry Fault → Type 0
LineRead before l (Ok e) = (line_fault before l.words ≡ None) × (value_of e ≡ entry_of l)
LineRead before l (Err f) = line_fault before l.words ≡ Some f

-- the entries that were read, as values
abbrev pub entries_of : Result (Vec TheEntry Global) JobRefusal → Result (List Entry) JobRefusal
entries_of (Ok es) = Ok (map value_of (vec_items es))
entries_of (Err x) = Err x

-- the lines ls are read, or the first with a fault is told
abbrev pub LinesRead : List Line → Result (List Entry) JobRefusal → Type 0
LinesRead ls (Ok es) = (first_below (length ls) (line_refusal ls) ≡ None) × (es ≡ map entry_of ls)
LinesRead ls (Err x) = first_below (length ls) (line_refusal ls) ≡ Some x

-- the number of the first entry with this name, where one has it
abbrev pub place_of : List Entry → List ℕ → Option ℕ
place_of es name = cond (nat_lt (number_of es name) (length es)) (Some (number_of es name)) None

-- the amounts of an entry are those that a book takes
pub record Small (e : Entry) : Type 0 where
  pub earning : e.amounts.earning ≤ 1000000
  pub cost : e.amounts.cost ≤ 1000000

-- entries that no question put to a line by itself refuses
pub record Sound (es : List Entry) : Type 0 where
  pub few : length es ≤ 4096
  pub small : (u : ℕ) → u < length es → Small (slice_index_or es u no_entry)
  pub needs : (u : ℕ) → u < length es → length (slice_index_or es u no_entry).needs ≤ 4

-- the book of entries before anything that they need is entered
abbrev pub with_entries : List Entry → Book
with_entries es = record { entries = map (λ e. e.amounts) es; needs = [] }

-- the book of entries, and of what the first n of them need
abbrev pub with_needs_of : List Entry → ℕ → Book
with_needs_of es n = record { entries = map (λ e. e.amounts) es; needs = needs_from 0 (take n (map (numbers es) es)) }

-- the numbers of what entry number u needs
abbrev pub numbers_of : List Entry → ℕ → List ℕ
numbers_of es u = numbers es (slice_index_or es u no_entry)

-- the book s may have what entry number u needs
pub record NeedsFit (es : List Entry) (u : ℕ) (s : Open) : Type 0 where
  pub sound : Sound es
  pub there : u < length es
  pub book : s.book ≡ with_needs_of es u
  pub room : 36864 ≤ length s.table.now

-- the book s has what entry number u needs, which leaves t, or the first name with a fault is told
abbrev pub NeedsEntered : List Entry → ℕ → Open → Result (Unit {0}) Fault → Open → Type 0
NeedsEntered es u s (Ok _) t = (name_fault es u ≡ None) × Filled (with_needs s.book u (numbers_of es u)) s t
NeedsEntered es u s (Err f) t = name_fault es u ≡ Some f

-- the book s has what all entries need, which leaves t, or the first name with a fault is told
abbrev pub AllNeedsEntered : List Entry → Open → Result (Unit {0}) JobRefusal → Open → Type 0
AllNeedsEntered es s (Ok _) t = (first_below (length es) (needs_refusal es) ≡ None) × Filled (book_of es) s t
AllNeedsEntered es s (Err x) t = first_below (length es) (needs_refusal es) ≡ Some x

-- the answer to entries: the sheet of their book, which loads back, or the refusal of a name
abbrev pub EntriesDrafted : List Entry → Result (List ℕ) JobRefusal → Type 0
EntriesDrafted es (Ok bs) = (b : Book) × (book_of_entries es ≡ Ok b) × (bs ≡ sheet_of b) × LoadsBack b bs
EntriesDrafted es (Err x) = book_of_entries es ≡ Err x
