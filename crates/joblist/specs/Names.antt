-- What is promised of the names of an accepted job list.
use Rattle.std.specs.Prelude.{◌≡◌, ℕ, ◌<◌, List, map, length, slice_index_or}
use Rattle.std.specs.List.{AllByRecursion}
use Rattle.book.specs.Books.{Book, needs_of}
use Rattle.joblist.specs.Entries.{Entry, no_entry}

-- the name of entry number u
abbrev pub name_of : List Entry → ℕ → List ℕ
name_of es u = (slice_index_or es u no_entry).name

-- no two entries have one name, and what an entry needs in the book b are the entries with the names that its line tells, in their order
pub record WellNamed (es : List Entry) (b : Book) : Type 0 where
  pub distinct : (u v : ℕ) → u < length es → v < length es → name_of es u ≡ name_of es v → u ≡ v
  pub there : (u : ℕ) → u < length es → AllByRecursion (λ w. w < length es) (needs_of u b.needs)
  pub named : (u : ℕ) → u < length es → map (name_of es) (needs_of u b.needs) ≡ (slice_index_or es u no_entry).needs
