-- What the calls on a book answer, and what they leave of its table and of the book.
use Rattle.std.specs.Prelude.{◌≡◌, ℕ, ◌+◌, ◌-◌, ◌*◌, ◌<◌, ◌≤◌, List, length, Some, None, Ok, Err, Option, Result}
use Rattle.std.specs.Borrow.{MutBor}
use Rattle.book.specs.declared.record.Record.{Record}
use Rattle.book.specs.declared.refusal.EnterRefusal.{EnterRefusal}
use Rattle.book.specs.declared.refusal.NeedRefusal.{NeedRefusal}
use Rattle.network.specs.Nets.{Net, Lawful}
use Rattle.book.specs.Books.{Book, empty, with_entry, with_need, needs_of, network_of}
use Rattle.book.specs.Plans.{BestPlans}
use Rattle.book.specs.Tables.{front}
use Rattle.book.specs.Refusals.{enter_refusal, need_refusal}

-- an open book as it stands: the table that it borrows, and what it holds
pub record Open : Type 0 where
  pub table : MutBor (List Record)
  pub book : Book

-- a new book over a table
abbrev pub new_book : MutBor (List Record) → Open
new_book table = record { table = table; book = empty }

-- a sealed book as it stands: the table that it borrows, and what it is as a network
pub record Shut : Type 0 where
  pub table : MutBor (List Record)
  -- how many entries and needs it has
  pub entries : ℕ
  pub needs : ℕ
  pub net : Net

-- an entry uses one record, and a need two
abbrev pub used : Book → ℕ
used b = length b.entries + 2 * length b.needs

abbrev pub unused : Open → ℕ
unused s = length s.table.now - used s.book

-- entries use records from the front of a table, needs from its end: in one of this size, n entries and m needs leave record k unused
abbrev pub Unused : ℕ → ℕ → ℕ → ℕ → Type 0
Unused size n m k = (n ≤ k) × (k + 2 * m < size)

-- the records that n entries and m needs do not use are as they were
abbrev pub Untouched : ℕ → ℕ → List Record → List Record → Type 0
Untouched n m before after = (length after ≡ length before) × ((k : ℕ) → Unused (length after) n m k → front after k ≡ front before k)

-- it is the same borrow of a table, told by its name, and the records that n entries and m needs do not use are as they were
pub record SparedBy (n m : ℕ) (before after : MutBor (List Record)) : Type 0 where
  pub same_table : after.ghost_name ≡ before.ghost_name
  pub untouched : Untouched n m before.now after.now

-- and so with those that the book b does not use
abbrev pub Spared : Book → MutBor (List Record) → MutBor (List Record) → Type 0
Spared b before after = SparedBy (length b.entries) (length b.needs) before after

abbrev pub enter_refused : Open → ℕ → ℕ → Option EnterRefusal
enter_refused s x y = enter_refusal x y (length s.book.entries) (unused s)

-- an entry of these amounts: refused, which leaves everything, or entered under the next number
abbrev pub Entered : Open → ℕ → ℕ → Result ℕ EnterRefusal → Open → Type 0
Entered s x y (Err e) t = (enter_refused s x y ≡ Some e) × (t ≡ s)
Entered s x y (Ok i) t = (enter_refused s x y ≡ None) × (i ≡ length s.book.entries) × (t.book ≡ with_entry s.book x y) × Spared t.book s.table t.table

abbrev pub need_refused : Open → ℕ → ℕ → Option NeedRefusal
need_refused s u w = need_refusal u w (needs_of u s.book.needs) (length s.book.entries) (unused s)

-- entry u is to need entry w: refused, which leaves everything, or entered behind the needs before it
abbrev pub Needed : Open → ℕ → ℕ → Result (Unit {0}) NeedRefusal → Open → Type 0
Needed s u w (Err e) t = (need_refused s u w ≡ Some e) × (t ≡ s)
Needed s u w (Ok _) t = (need_refused s u w ≡ None) × (t.book ≡ with_need s.book u w) × Spared t.book s.table t.table

-- the book s is sealed, and t stands: the network of the book, which keeps the laws, and whose cheapest selections are its best plans
pub record Sealed (s : Open) (t : Shut) : Type 0 where
  pub entries : t.entries ≡ length s.book.entries
  pub needs : t.needs ≡ length s.book.needs
  pub network : t.net ≡ network_of s.book
  pub lawful : Lawful (network_of s.book)
  pub best : BestPlans s.book
  pub spared : Spared s.book s.table t.table

-- what changes of the network keep of a sealed book: how many entries and needs there are, and the records that these do not use
pub record StillSealed (s t : Shut) : Type 0 where
  pub entries : t.entries ≡ s.entries
  pub needs : t.needs ≡ s.needs
  pub spared : SparedBy s.entries s.needs s.table t.table
