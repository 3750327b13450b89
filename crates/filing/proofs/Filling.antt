-- Books that are filled step by step.
use Rattle.std.proofs.Common.{◌≡◌, ℕ, ◌≤◌, List, length, Ok, refl, ap, ◌∙◌, subst, arith}
use Rattle.std.proofs.lemmas.List.{length_push}
use Rattle.sheet.specs.Answers.{SheetOf}
use Rattle.sheet.specs.Format.{Entry}
use Rattle.sheet.proofs.Sheets.{one_list}
use Rattle.book.specs.Books.{Book, with_entry, with_need}
use Rattle.book.specs.Calls.{Open, used, Spared, Entered, Needed}
use Rattle.filing.specs.Books.{book_of}
use Rattle.book.specs.Laws.{spared_then}
use Rattle.filing.specs.Passes.{Fitting, Filled}

-- a book is filled with what it holds
pub filled_none : (s : Open) → Filled s.book s s
filled_none s = record { book = refl; spared = record { same_table = refl; untouched = (refl, λ k free. refl) } }

-- filled with b and then with more
pub filled_on : (b c : Book) (s m t : Open) → Filled b s m → Filled c m t → length b.entries ≤ length c.entries → length b.needs ≤ length c.needs → Filled c s t
filled_on b c s m t first then entries needs = record { book = then.book; spared = spared_then entries needs first.spared then.spared }

pub filled_entry : (b : Book) (s t u : Open) (x y i : ℕ) → Filled b s t → Entered t x y (Ok i) u → Filled (with_entry b x y) s u
filled_entry b s t u x y i f (none, number, book, spared) =
    let is : u.book ≡ with_entry b x y = book ∙ ap (λ (c : Book). with_entry c x y) f.book in
    filled_on b (with_entry b x y) s t u f (record { book = is; spared = subst (λ (c : Book). Spared c t.table u.table) is spared }) (omega (arith, length_push b.entries (record { earning = x; cost = y }))) (omega arith)

pub filled_need : (b : Book) (s t u : Open) (v w : ℕ) → Filled b s t → Needed t v w (Ok tt) u → Filled (with_need b v w) s u
filled_need b s t u v w f (none, book, spared) =
    let is : u.book ≡ with_need b v w = book ∙ ap (λ (c : Book). with_need c v w) f.book in
    filled_on b (with_need b v w) s t u f (record { book = is; spared = subst (λ (c : Book). Spared c t.table u.table) is spared }) (omega arith) (omega (arith, length_push b.needs (record { entry = v; needed = w })))

-- where a sheet's book has room, that of every list that the sheet stands for has, since there is only one
pub room_for : (bs : List ℕ) (s : Open) (es : List Entry) → Fitting bs s → SheetOf bs es → used (book_of es) ≤ length s.table.now
room_for bs s es f x = subst (λ ds. used (book_of ds) ≤ length s.table.now) (one_list bs f.entries es f.sheet x) f.room
