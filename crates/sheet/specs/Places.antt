-- A record told as places in the sheet, and the entry that stands there.
use Rattle.std.specs.Prelude.{◌≡◌, ℕ, zero, suc, ◌+◌, ◌*◌, ◌<◌, ◌≤◌, ◌⊎◌, List, [], ◌∷◌, ◌++◌, length, drop, Some, None, Ok, Err, Option, Result, slice_index}
use Rattle.std.specs.Option.{option_map}
use Rattle.sheet.specs.declared.records.Kind.{Kind}
use Rattle.sheet.specs.declared.records.Kind.TheVariants.{Bare, Earns, Costs, Both}
use Rattle.sheet.specs.declared.records.Record.{Record}
use Rattle.sheet.specs.declared.refusal.Fault.{Fault}
use Rattle.sheet.specs.declared.refusal.SheetRefusal.{SheetRefusal}
use Rattle.sheet.specs.declared.refusal.SheetRefusal.TheVariants.{Faulty}
use Rattle.sheet.specs.Format.{Entry, amount_bytes, entry_bytes}
use Rattle.sheet.specs.Sound.{Sound}
use Rattle.sheet.specs.Answers.{First}

-- the number in the n bytes at p, the high byte first; past the sheet's end a byte counts as 0
unfoldable pub number_at : List ℕ → ℕ → ℕ → ℕ
number_at bs p zero = 0
number_at bs p (suc n) = number_at bs p n * 256 + slice_index bs (p + n)

-- the amount at a place, where there is one
abbrev pub amount_at : List ℕ → Option ℕ → Option ℕ
amount_at bs o = option_map (λ p. number_at bs p 4) o

-- the k numbers of two bytes from p on
unfoldable pub needs_at : List ℕ → ℕ → ℕ → List ℕ
needs_at bs p zero = []
needs_at bs p (suc k) = number_at bs p 2 ∷ needs_at bs (p + 2) k

-- the kind of a record whose earning and cost have these places
abbrev pub kind_of : Option ℕ → Option ℕ → Kind
kind_of None None = Bare
kind_of (Some p) None = Earns p
kind_of None (Some q) = Costs q
kind_of (Some p) (Some q) = Both p q

abbrev pub earning_place : Kind → Option ℕ
earning_place Bare = None
earning_place (Earns p) = Some p
earning_place (Costs q) = None
earning_place (Both p q) = Some p

abbrev pub cost_place : Kind → Option ℕ
cost_place Bare = None
cost_place (Earns p) = None
cost_place (Costs q) = Some q
cost_place (Both p q) = Some q

-- the entry that stands at the places of a record
abbrev pub entry_at : List ℕ → Record → Entry
entry_at bs r = record {
  earning = amount_at bs (earning_place r.kind);
  cost = amount_at bs (cost_place r.kind);
  needs = needs_at bs r.needs r.count;
}

-- an amount's value: one that is absent is 0
abbrev pub amount : Option ℕ → ℕ
amount None = 0
amount (Some x) = x

-- the place p, where the field is there
abbrev pub place : Option ℕ → ℕ → Option ℕ
place o p = option_map (λ _. p) o

-- the places of entry number i, whose record begins at byte p
abbrev pub placed : ℕ → ℕ → Entry → Record
placed i p e = record {
  number = i;
  byte = p;
  kind = kind_of (place e.earning (p + 1)) (place e.cost (p + 1 + length (amount_bytes e.earning)));
  needs = p + 1 + length (amount_bytes e.earning) + length (amount_bytes e.cost);
  count = length e.needs;
  end = p + length (entry_bytes e);
}

-- a reader's cursor: the place of the next record's first byte, and that record's number
pub record Cursor : Type 0 where
  pub at : ℕ
  pub number : ℕ

-- before the first record
abbrev pub start : Cursor
start = record { at = 0; number = 0 }

-- a reader of bs at one cursor handed out the record r, and stands at another
pub record HandedOut (bs : List ℕ) (from to : Cursor) (r : Record) : Type 0 where
  pub whole : drop from.at bs ≡ entry_bytes (entry_at bs r) ++ drop to.at bs
  pub sound : Sound from.number (entry_at bs r)
  pub places : r ≡ placed from.number from.at (entry_at bs r)
  pub next : to.at ≡ from.at + length (entry_bytes (entry_at bs r))
  pub inside : to.at ≤ length bs
  pub number : to.number ≡ from.number + 1

-- turn by turn, a reader of bs handed out the records of these entries, and came from one cursor to another
pub data HandsOut (bs : List ℕ) : Cursor → List Entry → Cursor → Type 0 where
  none : {from : Cursor} → HandsOut bs from [] from
  more : {from mid to : Cursor} {r : Record} {es : List Entry} → HandedOut bs from mid r → HandsOut bs mid es to → HandsOut bs from (entry_at bs r ∷ es) to

-- it refused the record at its cursor, and stands where it stood
pub record Refused (bs : List ℕ) (from to : Cursor) (x : SheetRefusal) : Type 0 where
  pub fault : Fault
  pub tells : x ≡ Faulty fault from.number from.at
  pub more : from.at < length bs
  pub first : First fault from.number (drop from.at bs)
  pub stays : to ≡ from

-- what a reader of bs answers at a cursor, and where it stands then
abbrev pub Handed : List ℕ → Cursor → Cursor → Result (Option Record) SheetRefusal → Type 0
Handed bs from to (Ok None) = (length bs ≤ from.at) × (to ≡ from)
Handed bs from to (Ok (Some r)) = HandedOut bs from to r
Handed bs from to (Err x) = Refused bs from to x

-- a sound record stands next
pub record SoundAhead (bs : List ℕ) (from : Cursor) : Type 0 where
  pub entry : Entry
  pub tail : List ℕ
  pub sound : Sound from.number entry
  pub whole : drop from.at bs ≡ entry_bytes entry ++ tail

-- nothing would be refused: the sheet ends, or a sound record stands next
abbrev pub NoneRefused : List ℕ → Cursor → Type 0
NoneRefused bs from = (length bs ≤ from.at) ⊎ SoundAhead bs from

-- where the sound record of e stands next, it is handed out, and e is what stands at its places
abbrev pub InTurn : List ℕ → Cursor → Result (Option Record) SheetRefusal → Type 0
InTurn bs from r = (e : Entry) (tail : List ℕ) → Sound from.number e → drop from.at bs ≡ entry_bytes e ++ tail → (r ≡ Ok (Some (placed from.number from.at e))) × (entry_at bs (placed from.number from.at e) ≡ e)
