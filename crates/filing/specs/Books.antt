-- The book of a sheet's entries.
use Rattle.std.specs.Prelude.{ℕ, suc, List, [], ◌∷◌, ◌++◌, map}
use Rattle.sheet.specs.Format.{Entry}
use Rattle.sheet.specs.Places.{amount}
use Rattle.book.specs.Books.{Amounts, Need, Book}

-- an amount that is absent is 0
abbrev pub amounts_of : Entry → Amounts
amounts_of e = record { earning = amount e.earning; cost = amount e.cost }

-- what entry u needs
abbrev pub needs_by : ℕ → List ℕ → List Need
needs_by u ns = map (λ w. record { entry = u; needed = w }) ns

-- what entries need, entry by entry, where the first has number i
abbrev pub needs_from : ℕ → List (List ℕ) → List Need
needs_from i [] = []
needs_from i (ns ∷ rest) = needs_by i ns ++ needs_from (suc i) rest

-- what each of the entries needs
abbrev pub all_needs : List Entry → List (List ℕ)
all_needs es = map (λ e. e.needs) es

abbrev pub book_of : List Entry → Book
book_of es = record { entries = map amounts_of es; needs = needs_from 0 (all_needs es) }
