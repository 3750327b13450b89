-- Entering an entry: what passes the questions, and what the table holds then.
use Rattle.std.proofs.Common.{◌≡◌, ℕ, ◌+◌, ◌-◌, ◌*◌, ◌<◌, ◌≤◌, List, map, length, set, None, Ok, sym, refl, ap, ◌∙◌, subst, ⊎_elim, arith, length-set}
use Rattle.std.specs.Borrow.{MutBor}
use Rattle.std.specs.List.{range_with_len}
use Rattle.std.proofs.lemmas.List.{nil_from_length}
use Rattle.std.proofs.lemmas.List.FromFn.{length-map-range_with_len, map-range_with_len_more}
use Rattle.std.proofs.lemmas.Bool.{cases_lt, eq-eqb, ne_eqb}
use Rattle.book.specs.declared.open.OpenBook.{OpenBook}
use Rattle.book.specs.declared.record.Record.{Record}
use Rattle.book.specs.Books.{empty, no_amounts, with_entry}
use Rattle.book.specs.Records.{as_entry}
use Rattle.book.specs.Tables.{Columns, columns, amounts_in, need_in, book_in}
use Rattle.book.proofs.Changes.{with_entry_at}
use Rattle.book.specs.Refusals.{enter_refusal}
use Rattle.book.specs.Accepted.{Enters}
use Rattle.book.specs.Values.{open_of}
use Rattle.book.specs.Calls.{Open, unused, enter_refused, Entered}
use Rattle.book.proofs.Counts.{map_same}
use Rattle.book.proofs.Writes.{columns_entry, front_far}
use Rattle.book.proofs.Keeping.{Kept, kept_entry}

-- an open book of n entries and m needs over the table
abbrev pub standing : MutBor (List Record) → ℕ → ℕ → Open
standing lent n m = record { table = lent; book = book_in (columns lent.now n m) n m }

-- what holds of its table
pub record Fine (table : List Record) (n m : ℕ) : Type 0 where
  pub few : n ≤ 4096
  pub room : n + 2 * m ≤ length table
  pub kept : Kept (columns table n m) n m

-- the table of an open book is fine
pub fine : (b : OpenBook) → Fine b.held.table.now b.held.entries b.held.needs
fine b = record {
  few = b.held.few;
  room = b.held.room;
  kept = record { amounts = b.held.amounts; heads = b.held.heads; unsent = b.unsent; noted = b.noted; four = b.four; counted = b.counted; others = b.others; once = b.once; arcs = b.arcs };
}

pub entry_count : (table : List Record) (n m : ℕ) → length (book_in (columns table n m) n m).entries ≡ n
entry_count table n m = length-map-range_with_len (amounts_in (columns table n m)) 0 n

pub need_count : (table : List Record) (n m : ℕ) → length (book_in (columns table n m) n m).needs ≡ m
need_count table n m = length-map-range_with_len (need_in (columns table n m)) 0 m

pub unused_count : (lent : MutBor (List Record)) (n m : ℕ) → unused (standing lent n m) ≡ length lent.now - n - 2 * m
unused_count lent n m = omega (arith, entry_count lent.now n m, need_count lent.now n m)

-- the same table, once these records are written
abbrev pub written : MutBor (List Record) → List Record → MutBor (List Record)
written lent new = record lent { now = new }

-- a book without entries has no needs: each would lead to an entry
pub no_entries : (b : OpenBook) → length (open_of b).book.entries ≡ 0 → (open_of b).book ≡ empty
no_entries b none =
    let table = b.held.table.now in
    let n = b.held.entries in
    let m = b.held.needs in
    let entries : n ≡ 0 = omega (arith, none, entry_count table n m) in
    let needs : m ≡ 0 = ⊎_elim (λ (some : 0 < m). absurd (omega (arith, b.held.heads 0 (omega arith)))) (λ (few : m ≤ 0). omega arith) (cases_lt 0 m) in
    λ i. record { entries = nil_from_length _ none i; needs = nil_from_length _ (need_count table n m ∙ needs) i }

-- the table with one entry more
abbrev pub entry_written : List Record → ℕ → ℕ → ℕ → List Record
entry_written table n x y = set table n (as_entry x y)

fine_entry : (table : List Record) (n m x y spare : ℕ) → Fine table n m → Enters x y n spare → spare ≡ length table - n - 2 * m → Fine (entry_written table n x y) (n + 1) m
fine_entry table n m x y spare f e is =
    let inside : n + 2 * m < length table = omega (arith, e.room) in
    record {
      few = omega (arith, e.few);
      room = omega (arith, e.room, length-set table n (as_entry x y));
      kept = subst (λ (c : Columns). Kept c (n + 1) m) (sym (columns_entry table n m x y inside)) (kept_entry (columns table n m) n m x y f.kept e.small_earning e.small_cost);
    }

-- it holds what it held, and the entry
book_entry : (c : Columns) (n m x y : ℕ) → book_in (with_entry_at c n x y) (n + 1) m ≡ with_entry (book_in c n m) x y
book_entry c n m x y =
    let old : (k : ℕ) → k < n → amounts_in (with_entry_at c n x y) k ≡ amounts_in c k = λ k h. rw (ne_eqb k n (λ e. omega arith)) in
    let new : amounts_in (with_entry_at c n x y) n ≡ record { earning = x; cost = y } = rw (eq-eqb n n refl) in
    let list : map (amounts_in (with_entry_at c n x y)) (range_with_len 0 (n + 1)) ≡ (with_entry (book_in c n m) x y).entries = map-range_with_len_more (amounts_in (with_entry_at c n x y)) 0 n n (omega arith) ∙ (let all = map_same _ _ n no_amounts old in cc) in
    λ i. record { entries = list i; needs = (book_in c n m).needs }

-- an entry was entered, and the table is fine
pub record After (lent : MutBor (List Record)) (n m x y : ℕ) (new : List Record) : Type 0 where
  pub fine : Fine new (n + 1) m
  pub entered : Entered (standing lent n m) x y (Ok n) (standing (written lent new) (n + 1) m)

after_written : (lent : MutBor (List Record)) (n m x y spare : ℕ) → Fine lent.now n m → Enters x y n spare → spare ≡ length lent.now - n - 2 * m → enter_refused (standing lent n m) x y ≡ None → After lent n m x y (entry_written lent.now n x y)
after_written lent n m x y spare f e is none =
    let table = lent.now in
    let inside : n + 2 * m < length table = omega (arith, e.room) in
    record {
      fine = fine_entry table n m x y spare f e is;
      entered = (
        none,
        sym (entry_count table n m),
        ap (λ (c : Columns). book_in c (n + 1) m) (columns_entry table n m x y inside) ∙ book_entry (columns table n m) n m x y,
        record {
          same_table = refl;
          untouched = (length-set table n _, λ k free. front_far table n _ k (λ is. omega (arith, free, entry_count (entry_written table n x y) (n + 1) m)));
        },
      );
    }

-- so it is after r was written, which is made of the record that was there, where the counts are those of the book that stands
pub after_entry : (b : OpenBook) (x y : ℕ) {count spare : ℕ} {r : Record} → count ≡ length (open_of b).book.entries → spare ≡ unused (open_of b) → Enters x y count spare → None ≡ enter_refusal x y count spare → r ≡ as_entry x y → After b.held.table b.held.entries b.held.needs x y (set b.held.table.now b.held.entries r)
after_entry b x y {count} {spare} {r} is left e none made =
    let table = b.held.table.now in
    let n = b.held.entries in
    let m = b.held.needs in
    let unused_here = unused_count b.held.table n m in
    let inside : n < length table = omega (arith, e.room, unused_here) in
    let same : set table n r ≡ entry_written table n x y = ap (set table n) made in
    let here : Enters x y n spare = subst (λ k. Enters x y k spare) (is ∙ entry_count table n m) e in
    subst (After b.held.table n m x y) (sym same) (after_written b.held.table n m x y spare (fine b) here (left ∙ unused_here) (cc))
