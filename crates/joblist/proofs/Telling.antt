-- From what the passes answer to what the text tells.
use Rattle.std.proofs.Common.{◌≡◌, ℕ, ◌≤◌, nat_lt, false, List, map, length, Ok, Err, Result, refl, sym, ap, ◌∙◌, arith}
use Rattle.std.proofs.lemmas.Bool.Decides.{nat_tests}
use Rattle.book.specs.Calls.{Open}
use Rattle.joblist.specs.declared.refusal.JobRefusal.{JobRefusal}
use Rattle.joblist.specs.Lines.{lines_of}
use Rattle.joblist.specs.Entries.{Entry, entry_of}
use Rattle.joblist.specs.JobLists.{book_of, unless, book_of_entries, book_of_lines, book_of_text}
use Rattle.joblist.specs.Drafts.{Drafted}
use Rattle.joblist.specs.Passes.{LinesRead, AllNeedsEntered, EntriesDrafted}
use Rattle.joblist.proofs.Naming.{well_named}

-- the answer to entries whose needs are entered, or one of which is refused
pub needs_told : (es : List Entry) (s t : Open) → AllNeedsEntered es s (Ok tt) t → book_of_entries es ≡ Ok t.book
needs_told es s t (none, filled) = ap (λ o. unless o (Ok (book_of es))) none ∙ ap Ok (sym filled.book)

pub refusal_told : (es : List Entry) (s t : Open) (x : JobRefusal) → AllNeedsEntered es s (Err x) t → book_of_entries es ≡ Err x
refusal_told es s t x is = ap (λ o. unless o (Ok (book_of es))) is

-- a text that is not too long is answered by its lines
short : (text : List ℕ) → length text ≤ 1048576 → book_of_text text ≡ book_of_lines (lines_of text)
short text few = let test : nat_lt 1048576 (length text) ≡ false = grind (arith, nat_tests) in rw test refl

lines_told : (text : List ℕ) (es : List Entry) → length text ≤ 1048576 → LinesRead (lines_of text) (Ok es) → book_of_text text ≡ book_of_entries es
lines_told text es few (none, are) = short text few ∙ (ap (λ o. unless o (book_of_entries (map entry_of (lines_of text)))) none ∙ ap book_of_entries (sym are))

-- and so, where all lines were read, by their entries
pub drafted : (text : List ℕ) (es : List Entry) (answer : Result (List ℕ) JobRefusal) → length text ≤ 1048576 → LinesRead (lines_of text) (Ok es) → EntriesDrafted es answer → Drafted text answer
drafted text es (Ok bs) few read (b, told, sheet, back) =
    let is = lines_told text es few read ∙ told in
    record { book = b; told = is; sheet = sheet; back = back; names = well_named text b is }
drafted text es (Err x) few read is = lines_told text es few read ∙ is
