-- How a table holds a book: entries from its front, the arcs of needs from its end.
use Rattle.std.specs.Prelude.{◌≡◌, ℕ, ◌+◌, ◌-◌, ◌*◌, ◌<◌, ◌≤◌, false, cond, List, [], map, length, nat_lt, slice_index_or}
use Rattle.std.specs.List.{range_with_len}
use Rattle.network.specs.Nets.{Net, Distinct}
use Rattle.network.specs.Cuts.{sum_below}
use Rattle.book.specs.declared.record.Record.{Record}
use Rattle.book.specs.Books.{Amounts, Need, Book, needs_of, amount, arcs_from, paired, binding}
use Rattle.book.specs.Records.{needed_of, residual_of}
use Rattle.book.specs.Refusals.{among}

-- the record past the end, which nothing reads
abbrev pub no_record : Record
no_record = record { earning = 0; cost = 0; needed = []; needs_or_index = 0; arcs_or_head = 0 }

-- the record that is number u from the front, and the one that is number a from the end
abbrev pub front : List Record → ℕ → Record
front table u = slice_index_or table u no_record

abbrev pub back : List Record → ℕ → Record
back table a = front table (length table - 1 - a)

-- the record of an entry that is one of n, and that of an arc, or of a place of the index, that is among those of m needs
abbrev pub entry_record : ℕ → List Record → ℕ → Record
entry_record n table u = cond (nat_lt u n) (front table u) no_record

abbrev pub arc_record : ℕ → List Record → ℕ → Record
arc_record m table a = cond (nat_lt a (2 * m)) (back table a) no_record

-- what the records say: of entries, and of arcs and places of the index
pub record Columns : Type 0 where
  pub earning : ℕ → ℕ
  pub cost : ℕ → ℕ
  -- the entries that an entry needs
  pub needed : ℕ → List ℕ
  -- how many they are, or once sealed the place of the entry's first arc in the index; and how many there is room for
  pub needs_or_first : ℕ → ℕ
  pub space : ℕ → ℕ
  -- how many arcs leave an entry
  pub arcs : ℕ → ℕ
  pub head : ℕ → ℕ
  pub residual : ℕ → ℕ
  -- the code at a place of the index
  pub code : ℕ → ℕ

-- those of such entries and such arcs
abbrev pub told : (ℕ → Record) → (ℕ → Record) → Columns
told entry arc = record {
  earning = λ u. (entry u).earning;
  cost = λ u. (entry u).cost;
  needed = λ u. needed_of (entry u);
  needs_or_first = λ u. (entry u).needs_or_index;
  space = λ u. length (entry u).needed;
  arcs = λ u. (entry u).arcs_or_head;
  head = λ a. (arc a).arcs_or_head;
  residual = λ a. residual_of (arc a);
  code = λ k. (arc k).needs_or_index;
}

-- and of a table with n entries and m needs
abbrev pub columns : List Record → ℕ → ℕ → Columns
columns table n m = told (entry_record n table) (arc_record m table)

abbrev pub amounts_in : Columns → ℕ → Amounts
amounts_in c u = record { earning = c.earning u; cost = c.cost u }

abbrev pub need_in : Columns → ℕ → Need
need_in c i = record { entry = c.head (2 * i + 1); needed = c.head (2 * i) }

-- the book of n entries and m needs that the records tell
abbrev pub book_in : Columns → ℕ → ℕ → Book
book_in c n m = record { entries = map (amounts_in c) (range_with_len 0 n); needs = map (need_in c) (range_with_len 0 m) }

-- the network of n entries and m needs that the records tell
abbrev pub network_in : Columns → ℕ → ℕ → Net
network_in c n m = record {
  graph = paired n m c.head;
  terminal = λ t u. cond (nat_lt u n) (amount t (amounts_in c u)) 0;
  residual = λ a. cond (nat_lt a (2 * m)) (c.residual a) 0;
}

-- the arcs of u, by their codes
abbrev pub arcs_of : Columns → ℕ → ℕ → List ℕ
arcs_of c m u = arcs_from m c.head u

-- What holds of a table with n entries and m needs.

abbrev pub SmallAmounts : Columns → ℕ → Type 0
SmallAmounts c n = (u : ℕ) → u < n → (c.earning u ≤ 1000000) × (c.cost u ≤ 1000000)

-- every arc leads to an entry
abbrev pub HeadsThere : Columns → ℕ → ℕ → Type 0
HeadsThere c n m = (a : ℕ) → a < 2 * m → c.head a < n

-- nothing has been sent along a need
abbrev pub Unsent : Columns → ℕ → Type 0
Unsent c m = (i : ℕ) → i < m → (c.residual (2 * i) ≡ binding) × (c.residual (2 * i + 1) ≡ 0)

-- each entry's record has what the entry needs, at most four
abbrev pub NeedsNoted : Columns → ℕ → ℕ → Type 0
NeedsNoted c n m = (u : ℕ) → u < n → c.needed u ≡ needs_of u (book_in c n m).needs

abbrev pub AtMostFour : Columns → ℕ → Type 0
AtMostFour c n = (u : ℕ) → u < n → (length (c.needed u) ≤ 4) × (c.needs_or_first u ≡ length (c.needed u)) × (c.space u ≡ 4)

-- so there are as many needs as the entries have together
abbrev pub NeedsCounted : Columns → ℕ → ℕ → Type 0
NeedsCounted c n m = sum_below n (λ u. length (c.needed u)) ≡ m

-- no entry needs itself, nor another twice
abbrev pub OthersNeeded : Columns → ℕ → Type 0
OthersNeeded c n = (u : ℕ) → u < n → among u (c.needed u) ≡ false

abbrev pub NeededOnce : Columns → ℕ → Type 0
NeededOnce c n = (u : ℕ) → u < n → Distinct (c.needed u)

-- each entry's record has the number of its arcs
abbrev pub ArcsCounted : Columns → ℕ → ℕ → Type 0
ArcsCounted c n m = (u : ℕ) → u < n → c.arcs u ≡ length (arcs_of c m u)

-- an arc and its reverse keep together what could be sent at first
abbrev pub SmallPairs : Columns → ℕ → Type 0
SmallPairs c m = (i : ℕ) → i < m → c.residual (2 * i) + c.residual (2 * i + 1) ≤ binding

-- the codes at k places of the index, from the first one on
abbrev pub codes_from : Columns → ℕ → ℕ → List ℕ
codes_from c first k = map (λ j. c.code (first + j)) (range_with_len 0 k)

-- the arcs of each entry stand in the index, from the entry's first place on
abbrev pub Indexed : Columns → ℕ → ℕ → Type 0
Indexed c n m = (u : ℕ) → u < n → codes_from c (c.needs_or_first u) (c.arcs u) ≡ arcs_of c m u

abbrev pub IndexInside : Columns → ℕ → ℕ → Type 0
IndexInside c n m = (u : ℕ) → u < n → c.needs_or_first u + c.arcs u ≤ 2 * m
