-- Entering a need: what passes the questions, and what the table holds then.
use Rattle.std.proofs.Common.{◌≡◌, ℕ, zero, suc, ◌+◌, ◌-◌, ◌*◌, ◌<◌, ◌≤◌, eqb, List, length, get_or, take, None, Ok, sym, refl, ap, ◌∙◌, subst, arith, length-set, ⊎_elim, sum_by, add-one}
use Rattle.std.specs.Borrow.{MutBor}
use Rattle.std.proofs.lemmas.Bool.{cases_lt}
use Rattle.std.proofs.lemmas.Bool.Decides.{nat_tests}
use Rattle.std.proofs.lemmas.List.{get_or-take, length-take-le}
use Rattle.std.proofs.lemmas.List.Sums.{sum_by_more}
use Rattle.std.proofs.lemmas.List.FromFn.{get_or-map-range_with_len}
use Rattle.network.specs.Cuts.{sum_below}
use Rattle.network.proofs.Sums.{sum_same, sum_at_most}
use Rattle.book.specs.declared.open.OpenBook.{OpenBook}
use Rattle.book.specs.declared.record.Record.{Record}
use Rattle.book.specs.Books.{mate, no_amounts, binding}
use Rattle.book.specs.Needings.{need_noted, arc_counted, arc_written, need_written}
use Rattle.book.specs.Records.{needed_of}
use Rattle.book.specs.Plans.{total_earnings}
use Rattle.book.specs.Tables.{Columns, columns, no_record, front, amounts_in, book_in}
use Rattle.book.proofs.Changes.{with_arc, with_arcs}
use Rattle.book.specs.Refusals.{need_refusal}
use Rattle.book.specs.Accepted.{Needs}
use Rattle.book.specs.Values.{open_of}
use Rattle.book.specs.Calls.{unused, need_refused, Needed}
use Rattle.book.proofs.Counts.{kept_at_most}
use Rattle.book.proofs.Writes.{entry_there, columns_needing, columns_more, columns_pair, front_far}
use Rattle.book.proofs.Keeping.{Kept, with_need_at, book_need, kept_need}
use Rattle.book.proofs.Enterings.{standing, Fine, fine, entry_count, need_count, unused_count, written}

-- The entries' records by themselves.

pub front_of : (table : List Record) (n u : ℕ) → u < n → front (take n table) u ≡ front table u
front_of table n u there = get_or-take n table u no_record there

-- the entries' records by themselves tell an entry's needs
needed_same : (table : List Record) (n m u : ℕ) {entries : List Record} → u < n → entries ≡ take n table → length entries ≡ n → (columns entries (length entries) 0).needed u ≡ (columns table n m).needed u
needed_same table n m u {entries} there is count = ap needed_of (entry_there entries (length entries) u (omega arith) ∙ ap (λ (rs : List Record). front rs u) is ∙ front_of table n u there ∙ sym (entry_there table n u there))

-- what they earn is what the book's entries earn
earned_below : (table : List Record) (n : ℕ) → n ≤ length table → sum_by (λ (r : Record). r.earning) (take n table) ≡ sum_below n (λ u. (front table u).earning)
unfolding sum_below
earned_below table zero there = refl
earned_below table (suc n) there =
    let more = rw add-one at (sum_by_more (λ (r : Record). r.earning) table n no_record (omega arith)) in
    omega (arith, more, earned_below table n (omega arith))

pub earned_by_all : (b : OpenBook) → sum_by (λ (r : Record). r.earning) (take b.held.entries b.held.table.now) ≡ total_earnings (open_of b).book
earned_by_all b =
    let table = b.held.table.now in
    let n = b.held.entries in
    let m = b.held.needs in
    let here = earned_below table n (omega (arith, b.held.room)) in
    let each = sum_same n (λ u. (front table u).earning) (λ u. (get_or (open_of b).book.entries u no_amounts).earning) (λ u there. ap (λ (r : Record). r.earning) (sym (entry_there table n u there)) ∙ ap (λ x. x.earning) (sym (get_or-map-range_with_len (amounts_in (columns table n m)) 0 n u u no_amounts there (omega arith)))) in
    rw (entry_count table n m) (here ∙ each)

-- The questions.

pub entries_long : (b : OpenBook) {entries : List Record} → entries ≡ take b.held.entries b.held.table.now → length entries ≡ b.held.entries
entries_long b is = rw is (length-take-le b.held.entries b.held.table.now (omega (arith, b.held.room)))

-- those that were put to the entries' records are those of the book
pub need_asked : (b : OpenBook) (u w : ℕ) {spare : ℕ} {entries : List Record} → entries ≡ take b.held.entries b.held.table.now → spare ≡ unused (open_of b) → need_refusal u w ((columns entries (length entries) 0).needed u) (length entries) spare ≡ need_refused (open_of b) u w
need_asked b u w {spare} {entries} is left =
    let table = b.held.table.now in
    let n = b.held.entries in
    let m = b.held.needs in
    let count : length entries ≡ n = entries_long b is in
    let book_count = entry_count table n m in
    ⊎_elim
    (λ (there : u < n). let same = needed_same table n m u there is count ∙ b.noted u there in rw (same, count, left, book_count) refl)
    (λ (far : n ≤ u). grind (arith, nat_tests))
    (cases_lt u n)

-- What the counts may be.

-- the needs of at most 4,096 entries are at most 16,384, so a record has room to count its arcs
pub countable : (b : OpenBook) (v : ℕ) → v < b.held.entries → (front b.held.table.now v).arcs_or_head < 65535
countable b v there =
    let c = columns b.held.table.now b.held.entries b.held.needs in
    let needs = sum_at_most b.held.entries 4 (λ u. length (c.needed u)) (λ u below. (b.four u below).0) in
    let most = kept_at_most (λ a. eqb (c.head (mate a)) v) (2 * b.held.needs) in
    let here = ap (λ (r : Record). r.arcs_or_head) (entry_there b.held.table.now b.held.entries v there) in
    omega (arith, b.counted, b.held.few, b.arcs v there, most, here)

-- What is written.

-- the four records that are written tell the need, its two arcs, and nothing else
written_length : (table : List Record) (m u w : ℕ) → length (need_written table m u w) ≡ length table
written_length table m u w =
    let noted = need_noted table u w in
    let counted = arc_counted noted w in
    let along = arc_written counted (2 * m) w binding in
    length-set along _ _ ∙ (length-set counted _ _ ∙ (length-set noted _ _ ∙ length-set table _ _))

columns_need : (table : List Record) (n m u w : ℕ) → u < n → w < n → n + 2 * m + 2 ≤ length table → (front table u).needs_or_index < length (front table u).needed → columns (need_written table m u w) n (m + 1) ≡ with_need_at (columns table n m) m u w
columns_need table n m u w there needed_there room few =
    let noted = need_noted table u w in
    let counted = arc_counted noted w in
    let noted_long : length noted ≡ length table = length-set table _ _ in
    let counted_long : length counted ≡ length table = length-set noted _ _ ∙ noted_long in
    let with_noted = columns_needing table n m u w there (omega arith) few in
    let with_counted = columns_more noted n m w needed_there (omega arith) ∙ ap (λ (c : Columns). with_arcs c w (c.arcs w + 1)) with_noted in
    columns_pair counted n m w binding u 0 (omega arith) ∙ ap (λ (c : Columns). with_arc (with_arc c (2 * m) w binding) (2 * m + 1) u 0) with_counted

-- every other record is as it was
written_far : (table : List Record) (m u w k : ℕ) → (k ≡ u → ⊥) → (k ≡ w → ⊥) → k + 2 * (m + 1) < length table → front (need_written table m u w) k ≡ front table k
written_far table m u w k not_u not_w unused =
    let noted = need_noted table u w in
    let counted = arc_counted noted w in
    let along = arc_written counted (2 * m) w binding in
    let counted_long : length counted ≡ length table = length-set noted _ _ ∙ length-set table _ _ in
    let along_long : length along ≡ length table = length-set counted _ _ ∙ counted_long in
    front_far along _ _ k (λ is. omega arith) ∙ (front_far counted _ _ k (λ is. omega arith) ∙ (front_far noted _ _ k not_w ∙ front_far table _ _ k not_u))

-- a need was entered, and the table is fine
pub record After (lent : MutBor (List Record)) (n m u w : ℕ) (new : List Record) : Type 0 where
  pub fine : Fine new n (m + 1)
  pub needed : Needed (standing lent n m) u w (Ok tt) (standing (written lent new) n (m + 1))

after_written : (lent : MutBor (List Record)) (n m u w spare : ℕ) → Fine lent.now n m → Needs u w ((columns lent.now n m).needed u) n spare → spare ≡ length lent.now - n - 2 * m → need_refused (standing lent n m) u w ≡ None → After lent n m u w (need_written lent.now m u w)
after_written lent n m u w spare f e is none =
    let table = lent.now in
    let four = f.kept.four u e.there in
    let here = entry_there table n u e.there in
    let told = columns_need table n m u w e.there e.needed_there (omega (arith, f.room, e.room)) (omega (arith, e.few, four, ap (λ (r : Record). r.needs_or_index) here, ap (λ (r : Record). length r.needed) here)) in
    record {
      fine = record {
        few = f.few;
        room = omega (arith, f.room, e.room, written_length table m u w);
        kept = subst (λ (c : Columns). Kept c n (m + 1)) (sym told) (kept_need (columns table n m) n m u w f.kept e.there e.needed_there e.others e.fresh e.few);
      };
      needed = (
        none,
        ap (λ (c : Columns). book_in c n (m + 1)) told ∙ book_need (columns table n m) n m u w,
        record {
          same_table = refl;
          untouched = (
            written_length table m u w,
            λ k free.
                let new = need_written table m u w in
                let entries = entry_count new n (m + 1) in
                let needs = need_count new n (m + 1) in
                let long = written_length table m u w in
                written_far table m u w k (λ is. omega (arith, free, entries, e.there)) (λ is. omega (arith, free, entries, e.needed_there)) (omega (arith, free, needs, long)),
          );
        },
      );
    }

-- so it is after the need was written, where the questions were put to the entries' records
pub after_need : (b : OpenBook) (u w : ℕ) {spare : ℕ} {entries new : List Record} → entries ≡ take b.held.entries b.held.table.now → spare ≡ unused (open_of b) → Needs u w ((columns entries (length entries) 0).needed u) (length entries) spare → None ≡ need_refusal u w ((columns entries (length entries) 0).needed u) (length entries) spare → new ≡ need_written b.held.table.now b.held.needs u w → After b.held.table b.held.entries b.held.needs u w new
after_need b u w {spare} {entries} is left e none made =
    let table = b.held.table.now in
    let n = b.held.entries in
    let m = b.held.needs in
    let count : length entries ≡ n = entries_long b is in
    let there : u < n = omega (arith, e.there) in
    let needed = needed_same table n m u there is count in
    let here : Needs u w ((columns table n m).needed u) n spare = subst (λ k. Needs u w ((columns table n m).needed u) k spare) count (subst (λ xs. Needs u w xs (length entries) spare) needed e) in
    subst (After b.held.table n m u w) (sym made) (after_written b.held.table n m u w spare (fine b) here (left ∙ unused_count b.held.table n m) (sym (none ∙ need_asked b u w is left)))
