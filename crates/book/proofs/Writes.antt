-- What is read of a table after a write to one record.
use Rattle.std.proofs.Common.{◌≡◌, ℕ, ◌+◌, ◌-◌, ◌*◌, ◌/◌, ◌%◌, ◌^◌, ◌<◌, ◌≤◌, List, [], ◌∷◌, ◌++◌, length, take, set, sym, refl, ap, ◌∙◌, arith, length-set}
use Rattle.std.proofs.lemmas.List.{get_or-set_same, get_or-set_other, take_more_set}
use Rattle.std.proofs.lemmas.Bool.{lt-ltb}
use Rattle.std.proofs.lemmas.Bool.Decides.{nat_tests}
use Rattle.network.specs.declared.terminal.Terminal.{Terminal}
use Rattle.network.specs.declared.terminal.Terminal.TheVariants.{Source, Sink}
use Rattle.network.specs.Nets.{at}
use Rattle.book.specs.declared.record.Record.{Record}
use Rattle.book.specs.Records.{as_entry, as_arc, needing, needed_of, with_arc_more, residual_of, with_amount, with_residual, with_first, with_place}
use Rattle.book.specs.Tables.{Columns, no_record, front, back, entry_record, arc_record, told, columns}
use Rattle.book.proofs.Changes.{with_entry_at, with_arc, with_needed, with_arcs, with_amount_at, with_residual_at, with_moved}
use Rattle.book.specs.Indexes.{with_index}
use Rattle.book.specs.Needings.{arc_written}

pub front_set : (table : List Record) (i : ℕ) (r : Record) (k : ℕ) → i < length table → front (set table i r) k ≡ at (front table) i r k
front_set table i r k h = grind (arith, nat_tests, get_or-set_same, get_or-set_other)

-- every record but the one written is as it was
pub front_far : (table : List Record) (i : ℕ) (r : Record) (k : ℕ) → (k ≡ i → ⊥) → front (set table i r) k ≡ front table k
front_far table i r k far = get_or-set_other table i k r no_record far

-- the record of an entry, and of an arc, that is there is the one that is read
pub entry_there : (table : List Record) (n u : ℕ) → u < n → entry_record n table u ≡ front table u
entry_there table n u there = rw (lt-ltb u n there) refl

pub arc_there : (table : List Record) (m a : ℕ) → a < 2 * m → arc_record m table a ≡ back table a
arc_there table m a there = rw (lt-ltb a (2 * m) there) refl

-- the records of the entries, where one of them was written, where one more is written, and where another record was written
entry_set : (table : List Record) (n u : ℕ) (r : Record) (k : ℕ) → u < n → n ≤ length table → entry_record n (set table u r) k ≡ at (entry_record n table) u r k
entry_set table n u r k there inside = let here = front_set table u r k (omega arith) in grind (arith, nat_tests)

entry_more : (table : List Record) (n : ℕ) (r : Record) (k : ℕ) → n < length table → entry_record (n + 1) (set table n r) k ≡ at (entry_record n table) n r k
entry_more table n r k inside = let here = front_set table n r k inside in grind (arith, nat_tests)

entry_far : (table : List Record) (n i : ℕ) (r : Record) (k : ℕ) → n ≤ i → entry_record n (set table i r) k ≡ entry_record n table k
entry_far table n i r k past = let far = front_far table i r k in grind (arith, nat_tests)

-- the records of the arcs likewise
arc_set : (table : List Record) (m a : ℕ) (r : Record) (k : ℕ) → a < 2 * m → 2 * m ≤ length table → arc_record m (set table (length table - 1 - a) r) k ≡ at (arc_record m table) a r k
arc_set table m a r k there inside =
    let long = length-set table (length table - 1 - a) r in
    let here = front_set table (length table - 1 - a) r (length table - 1 - k) (omega arith) in
    rw long (grind (arith, nat_tests))

arc_more : (table : List Record) (m : ℕ) (r s : Record) (k : ℕ) → 2 * m + 2 ≤ length table → arc_record (m + 1) (set (set table (length table - 1 - 2 * m) r) (length table - 1 - (2 * m + 1)) s) k ≡ at (at (arc_record m table) (2 * m) r) (2 * m + 1) s k
arc_more table m r s k room =
    let i = length table - 1 - 2 * m in
    let j = length table - 1 - (2 * m + 1) in
    let long = length-set (set table i r) j s in
    let long_first = length-set table i r in
    let first = front_set table i r (length table - 1 - k) (omega arith) in
    let second = front_set (set table i r) j s (length table - 1 - k) (omega arith) in
    rw (long, long_first) (grind (arith, nat_tests))

arc_far : (table : List Record) (m i : ℕ) (r : Record) (k : ℕ) → i + 2 * m < length table → arc_record m (set table i r) k ≡ arc_record m table k
arc_far table m i r k before =
    let long = length-set table i r in
    let far = front_far table i r (length table - 1 - k) in
    rw long (grind (arith, nat_tests))

-- the same is read of the same records
same_told : {e f a b : ℕ → Record} → ((k : ℕ) → f k ≡ e k) → ((k : ℕ) → b k ≡ a k) → told f b ≡ told e a
same_told entries arcs = λ i. told (λ k. entries k i) (λ k. arcs k i)

at_read : {A : Type 0} (read : Record → A) (f : ℕ → Record) (i : ℕ) (r : Record) (k : ℕ) → read (at f i r k) ≡ at (λ j. read (f j)) i (read r) k
at_read read f i r k = grind (arith, nat_tests)

-- entry u is told by the record r
abbrev put_entry : Columns → ℕ → Record → Columns
put_entry c u r = record c {
  earning = at c.earning u r.earning;
  cost = at c.cost u r.cost;
  needed = at c.needed u (needed_of r);
  needs_or_first = at c.needs_or_first u r.needs_or_index;
  space = at c.space u (length r.needed);
  arcs = at c.arcs u r.arcs_or_head;
}

told_entry : (entry arc : ℕ → Record) (u : ℕ) (r : Record) → told (at entry u r) arc ≡ put_entry (told entry arc) u r
told_entry entry arc u r = λ i. record (told entry arc) {
  earning = λ k. at_read (λ (r : Record). r.earning) entry u r k i;
  cost = λ k. at_read (λ (r : Record). r.cost) entry u r k i;
  needed = λ k. at_read needed_of entry u r k i;
  needs_or_first = λ k. at_read (λ (r : Record). r.needs_or_index) entry u r k i;
  space = λ k. at_read (λ (r : Record). length r.needed) entry u r k i;
  arcs = λ k. at_read (λ (r : Record). r.arcs_or_head) entry u r k i;
}

-- arc a, and place a of the index, are told by the record r
abbrev put_arc : Columns → ℕ → Record → Columns
put_arc c a r = record c { head = at c.head a r.arcs_or_head; residual = at c.residual a (residual_of r); code = at c.code a r.needs_or_index }

told_arc : (entry arc : ℕ → Record) (a : ℕ) (r : Record) → told entry (at arc a r) ≡ put_arc (told entry arc) a r
told_arc entry arc a r = λ i. record (told entry arc) {
  head = λ k. at_read (λ (r : Record). r.arcs_or_head) arc a r k i;
  residual = λ k. at_read residual_of arc a r k i;
  code = λ k. at_read (λ (r : Record). r.needs_or_index) arc a r k i;
}

-- the record of an entry, or of an arc, is written
columns_entry_set : (table : List Record) (n m u : ℕ) (r : Record) → u < n → n + 2 * m ≤ length table → columns (set table u r) n m ≡ put_entry (columns table n m) u r
columns_entry_set table n m u r there room = same_told (λ k. entry_set table n u r k there (omega arith)) (λ k. arc_far table m u r k (omega arith)) ∙ told_entry (entry_record n table) (arc_record m table) u r

columns_arc_set : (table : List Record) (n m a : ℕ) (r : Record) → a < 2 * m → n + 2 * m ≤ length table → columns (set table (length table - 1 - a) r) n m ≡ put_arc (columns table n m) a r
columns_arc_set table n m a r there room = same_told (λ k. entry_far table n (length table - 1 - a) r k (omega arith)) (λ k. arc_set table m a r k there (omega arith)) ∙ told_arc (entry_record n table) (arc_record m table) a r

-- another value that is the same one
at_id : {A : Type 0} (f : ℕ → A) (u : ℕ) → at f u (f u) ≡ f
at_id f u = let same : (k : ℕ) → at f u (f u) k ≡ f k = λ k. grind (arith, nat_tests) in λ i k. same k i

-- writing what is there changes nothing
entry_kept : (table : List Record) (n m u : ℕ) → u < n → put_entry (columns table n m) u (front table u) ≡ columns table n m
entry_kept table n m u there =
    let c = columns table n m in
    let here = sym (entry_there table n u there) in
    ap (put_entry c u) here
    ∙ (λ i. record c {
      earning = at_id c.earning u i;
      cost = at_id c.cost u i;
      needed = at_id c.needed u i;
      needs_or_first = at_id c.needs_or_first u i;
      space = at_id c.space u i;
      arcs = at_id c.arcs u i;
    })

arc_kept : (table : List Record) (n m a : ℕ) → a < 2 * m → put_arc (columns table n m) a (back table a) ≡ columns table n m
arc_kept table n m a there =
    let c = columns table n m in
    ap (put_arc c a) (sym (arc_there table m a there)) ∙ (λ i. record c { head = at_id c.head a i; residual = at_id c.residual a i; code = at_id c.code a i })

-- the two halves of a residual tell it
halves : (x : ℕ) → x % 2 ^ 32 + 2 ^ 32 * (x / 2 ^ 32) ≡ x
halves x = omega arith

pub columns_entry : (table : List Record) (n m x y : ℕ) → n + 2 * m < length table → columns (set table n (as_entry x y)) (n + 1) m ≡ with_entry_at (columns table n m) n x y
columns_entry table n m x y room =
    let r = as_entry x y in
    same_told (λ k. entry_more table n r k (omega arith)) (λ k. arc_far table m n r k (omega arith)) ∙ told_entry (entry_record n table) (arc_record m table) n r

pub columns_needing : (table : List Record) (n m u w : ℕ) → u < n → n + 2 * m ≤ length table → (front table u).needs_or_index < length (front table u).needed → columns (set table u (needing (front table u) w)) n m ≡ with_needed (columns table n m) u w
columns_needing table n m u w there room few =
    let c = columns table n m in
    let old = front table u in
    let here : old ≡ entry_record n table u = rw (lt-ltb u n there) refl in
    columns_entry_set table n m u _ there room
    ∙ (λ i. record (entry_kept table n m u there i) {
      needed = at c.needed u ((take_more_set old.needed old.needs_or_index w few ∙ ap (λ (r : Record). needed_of r ++ w ∷ []) here) i);
      needs_or_first = at c.needs_or_first u ((here i).needs_or_index + 1);
      space = (ap (at c.space u) (length-set old.needed old.needs_or_index w ∙ ap (λ (r : Record). length r.needed) here) ∙ at_id c.space u) i;
      arcs = at c.arcs u ((here i).arcs_or_head + 1);
    })

pub columns_more : (table : List Record) (n m u : ℕ) → u < n → n + 2 * m ≤ length table → columns (set table u (with_arc_more (front table u))) n m ≡ with_arcs (columns table n m) u ((columns table n m).arcs u + 1)
columns_more table n m u there room =
    let c = columns table n m in
    let here = sym (entry_there table n u there) in
    columns_entry_set table n m u _ there room ∙ (λ i. record (entry_kept table n m u there i) { arcs = at c.arcs u ((here i).arcs_or_head + 1) })

pub columns_amount : (table : List Record) (n m : ℕ) (t : Terminal) (u x : ℕ) → u < n → n + 2 * m ≤ length table → columns (set table u (with_amount (front table u) t x)) n m ≡ with_amount_at (columns table n m) t u x
columns_amount table n m Source u x there room = columns_entry_set table n m u _ there room ∙ (λ i. record (entry_kept table n m u there i) { earning = at (columns table n m).earning u x })
columns_amount table n m Sink u x there room = columns_entry_set table n m u _ there room ∙ (λ i. record (entry_kept table n m u there i) { cost = at (columns table n m).cost u x })

pub columns_first : (table : List Record) (n m u x : ℕ) → u < n → n + 2 * m ≤ length table → let c = columns table n m in columns (set table u (with_first (front table u) x)) n m ≡ with_index c (at c.needed u (take x (front table u).needed)) (at c.needs_or_first u x) c.code
columns_first table n m u x there room =
    let c = columns table n m in
    columns_entry_set table n m u _ there room
    ∙ (λ i. record (entry_kept table n m u there i) {
      needed = at c.needed u (take x (front table u).needed);
      needs_or_first = at c.needs_or_first u x;
    })

-- the two arcs of need number m are written
pub columns_pair : (table : List Record) (n m h x g y : ℕ) → n + 2 * m + 2 ≤ length table → columns (arc_written (arc_written table (2 * m) h x) (2 * m + 1) g y) n (m + 1) ≡ with_arc (with_arc (columns table n m) (2 * m) h x) (2 * m + 1) g y
columns_pair table n m h x g y room =
    let c = columns table n m in
    let first = as_arc (back table (2 * m)) h x in
    let along = arc_written table (2 * m) h x in
    let i = length table - 1 - (2 * m + 1) in
    let second = as_arc (front along i) g y in
    let entries : (k : ℕ) → entry_record n (set along i second) k ≡ entry_record n table k = λ k. entry_far along n i second k (omega arith) ∙ entry_far table n (length table - 1 - 2 * m) first k (omega arith) in
    ap (λ l. columns (set along (l - 1 - (2 * m + 1)) (as_arc (front along (l - 1 - (2 * m + 1))) g y)) n (m + 1)) (length-set table (length table - 1 - 2 * m) first)
    ∙ same_told entries (λ k. arc_more table m first second k (omega arith))
    ∙ told_arc (entry_record n table) (at (arc_record m table) (2 * m) first) (2 * m + 1) second
    ∙ ap (λ (d : Columns). put_arc d (2 * m + 1) second) (told_arc (entry_record n table) (arc_record m table) (2 * m) first)
    ∙ (λ j. with_arc (with_arc c (2 * m) h (halves x j)) (2 * m + 1) g (halves y j))

pub columns_residual : (table : List Record) (n m a x : ℕ) → a < 2 * m → n + 2 * m ≤ length table → columns (set table (length table - 1 - a) (with_residual (back table a) x)) n m ≡ with_residual_at (columns table n m) a x
columns_residual table n m a x there room = columns_arc_set table n m a _ there room ∙ (λ i. record (arc_kept table n m a there i) { residual = at (columns table n m).residual a (halves x i) })

pub columns_place : (table : List Record) (n m p a : ℕ) → p < 2 * m → n + 2 * m ≤ length table → let c = columns table n m in columns (set table (length table - 1 - p) (with_place (back table p) a)) n m ≡ with_index c c.needed c.needs_or_first (at c.code p a)
columns_place table n m p a there room = columns_arc_set table n m p _ there room ∙ (λ i. record (arc_kept table n m p there i) { code = at (columns table n m).code p a })

-- x is raised at arc b, after arc a has got another residual
abbrev pub moved_at : List Record → ℕ → ℕ → ℕ → ℕ → List Record
moved_at table a b left x =
    let lowered = set table (length table - 1 - a) (with_residual (back table a) left) in
    let old = front lowered (length table - 1 - b) in
    set lowered (length table - 1 - b) (with_residual old (residual_of old + x))

-- what arc b has before it is raised
pub before_raised : (table : List Record) (a b : ℕ) (r : Record) → a < length table → b < length table → (a ≡ b → ⊥) → front (set table (length table - 1 - a) r) (length table - 1 - b) ≡ back table b
before_raised table a b r there other apart = front_far table (length table - 1 - a) r (length table - 1 - b) (λ same. apart (omega arith))

pub columns_moved : (table : List Record) (n m a b x : ℕ) → a < 2 * m → b < 2 * m → n + 2 * m ≤ length table → (a ≡ b → ⊥) → columns (moved_at table a b (residual_of (back table a) - x) x) n m ≡ with_moved (columns table n m) a b x
columns_moved table n m a b x there other room apart =
    let c = columns table n m in
    let left = residual_of (back table a) - x in
    let lowered = set table (length table - 1 - a) (with_residual (back table a) left) in
    let long : length lowered ≡ length table = length-set table _ _ in
    let of : (k : ℕ) → k < 2 * m → residual_of (back table k) ≡ c.residual k = λ k h. ap residual_of (sym (arc_there table m k h)) in
    let was : residual_of (front lowered (length table - 1 - b)) ≡ c.residual b = ap residual_of (before_raised table a b _ (omega arith) (omega arith) apart) ∙ of b other in
    ap (λ y. columns (set lowered (length table - 1 - b) (with_residual (front lowered (length table - 1 - b)) (y + x))) n m) was
    ∙ ap (λ l. columns (set lowered (l - 1 - b) (with_residual (front lowered (l - 1 - b)) (c.residual b + x))) n m) (sym long)
    ∙ columns_residual lowered n m b (c.residual b + x) other (omega arith)
    ∙ ap (λ (d : Columns). with_residual_at d b (c.residual b + x)) (columns_residual table n m a left there room)
    ∙ ap (λ y. with_residual_at (with_residual_at c a (y - x)) b (c.residual b + x)) (of a there)
