-- What an open book answers of an entry stands in the entry's record.
use Rattle.std.proofs.Common.{◌≡◌, ℕ, ◌<◌, List, map, get_or, take, ◌∙◌, ap, sym, arith}
use Rattle.std.specs.List.{slice_get}
use Rattle.std.specs.Option.{option_map}
use Rattle.std.proofs.lemmas.Option.{slice_get-map}
use Rattle.std.proofs.lemmas.List.{length-map, get_or-map}
use Rattle.std.proofs.lemmas.List.FromFn.{fill_by_all}
use Rattle.book.specs.declared.open.OpenBook.{OpenBook}
use Rattle.book.specs.declared.record.Record.{Record}
use Rattle.book.specs.Books.{Amounts, no_amounts}
use Rattle.book.specs.Tables.{columns, no_record, amounts_in}
use Rattle.book.specs.Values.{open_of}
use Rattle.book.proofs.Needings.{front_of, entries_long}
use Rattle.book.proofs.Writes.{entry_there}

-- the amounts in an entry's record
abbrev pub amounts_of : Record → Amounts
amounts_of r = record { earning = r.earning; cost = r.cost }

-- those of an entry, where it is there
pub amounts_asked : (b : OpenBook) (u : ℕ) {entries : List Record} → entries ≡ take b.held.entries b.held.table.now → slice_get (open_of b).book.entries u ≡ option_map amounts_of (slice_get entries u)
amounts_asked b u {entries} is =
    let table = b.held.table.now in
    let n = b.held.entries in
    let m = b.held.needs in
    let long = entries_long b is in
    let each : (k : ℕ) → k < n → get_or (map amounts_of entries) k no_amounts ≡ amounts_in (columns table n m) k = λ k there. get_or-map amounts_of entries k no_record no_amounts (omega (arith, long)) ∙ rw is (ap amounts_of (front_of table n k there ∙ sym (entry_there table n k there))) in
    let told : map amounts_of entries ≡ (open_of b).book.entries = fill_by_all (amounts_in (columns table n m)) (map amounts_of entries) n no_amounts (length-map entries amounts_of ∙ long) each in
    ap (λ xs. slice_get xs u) (sym told) ∙ slice_get-map amounts_of entries u
