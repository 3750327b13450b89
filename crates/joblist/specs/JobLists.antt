-- What a job list means: the book that it tells, or the first question whose answer is no.
use Rattle.std.specs.Prelude.{ℕ, zero, suc, cond, nat_lt, List, [], map, length, take, Some, None, Ok, Err, Option, Result, slice_index_or}
use Rattle.std.specs.Option.{option_or, option_map}
use Rattle.book.specs.Books.{Book}
use Rattle.filing.specs.Books.{needs_from}
use Rattle.joblist.specs.declared.refusal.Fault.{Fault}
use Rattle.joblist.specs.declared.refusal.JobRefusal.{JobRefusal}
use Rattle.joblist.specs.declared.refusal.JobRefusal.TheVariants.{TooLong, Faulty}
use Rattle.joblist.specs.Lines.{Line, lines_of}
use Rattle.joblist.specs.Entries.{Entry, no_line, no_entry, entry_of}
use Rattle.joblist.specs.Faults.{line_fault, number_of, need_fault}

-- the first that there is of f 0, f 1 .. f (n - 1)
unfoldable pub first_below : {A : Type 0} → ℕ → (ℕ → Option A) → Option A
first_below zero f = None
first_below (suc n) f = option_or (first_below n f) (f n)

-- a fault of the line of this number
abbrev pub at_line : ℕ → Option Fault → Option JobRefusal
at_line n o = option_map (λ f. Faulty f n) o

-- what refuses line number k of those that say something, by itself
abbrev pub line_refusal : List Line → ℕ → Option JobRefusal
line_refusal ls k = let l = slice_index_or ls k no_line in at_line l.number (line_fault (map entry_of (take k ls)) l.words)

-- the first fault of a name that entry number u needs
abbrev pub name_fault : List Entry → ℕ → Option Fault
name_fault es u =
    let names = (slice_index_or es u no_entry).needs in
    first_below (length names) (λ k. need_fault es u (take k names) (slice_index_or names k []))

-- what refuses its line for it
abbrev pub needs_refusal : List Entry → ℕ → Option JobRefusal
needs_refusal es u = at_line (slice_index_or es u no_entry).line (name_fault es u)

-- the numbers of what an entry needs
abbrev pub numbers : List Entry → Entry → List ℕ
numbers all e = map (number_of all) e.needs

-- the book of entries, each with the number of its place, and what they need, entry by entry
abbrev pub book_of : List Entry → Book
book_of es = record { entries = map (λ e. e.amounts) es; needs = needs_from 0 (map (numbers es) es) }

-- r, unless there is a refusal
abbrev pub unless : Option JobRefusal → Result Book JobRefusal → Result Book JobRefusal
unless (Some x) r = Err x
unless None r = r

-- the book of entries whose lines passed by themselves
abbrev pub book_of_entries : List Entry → Result Book JobRefusal
book_of_entries es = unless (first_below (length es) (needs_refusal es)) (Ok (book_of es))

-- the book of the lines that say something
abbrev pub book_of_lines : List Line → Result Book JobRefusal
book_of_lines ls = unless (first_below (length ls) (line_refusal ls)) (book_of_entries (map entry_of ls))

-- the book of a text
abbrev pub book_of_text : List ℕ → Result Book JobRefusal
book_of_text text = cond (nat_lt 1048576 (length text)) (Err TooLong) (book_of_lines (lines_of text))
