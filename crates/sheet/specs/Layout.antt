-- Where a bit map puts the fields of a record, and what is laid out where nothing is asked.
use Rattle.std.specs.Prelude.{ℕ, zero, suc, ◌+◌, ◌-◌, ◌<◌, ◌≢◌, ◌*◌, ◌/◌, ◌%◌, ◌^◌, ◌==◌, cond, List, length, Some, None, Option, nat_lt, slice_index}
use Rattle.sheet.specs.declared.records.Record.{Record}
use Rattle.sheet.specs.Places.{Cursor, kind_of, number_at}

-- the place p, where the bit stands
abbrev pub field : ℕ → ℕ → Option ℕ
field zero p = None
field (suc b) p = Some p

-- how many bytes a record has whose bit map is m and that has k needs
abbrev pub size : ℕ → ℕ → ℕ
size m k = 1 + 4 * (m % 2) + 4 * (m / 2 % 2) + 2 * k

-- the places in record number i, which begins at byte p with the bit map m and has k needs
abbrev pub laid : ℕ → ℕ → ℕ → ℕ → Record
laid i p m k = record {
  number = i;
  byte = p;
  kind = kind_of (field (m % 2) (p + 1)) (field (m / 2 % 2) (p + 1 + 4 * (m % 2)));
  needs = p + 1 + 4 * (m % 2) + 4 * (m / 2 % 2);
  count = k;
  end = p + size m k;
}

-- how many needs the bit map m announces, by its bits from bit 2 up; 0 where they leave a gap
abbrev pub announced : ℕ → ℕ
announced m = cond (m / 4 % 16 == 1) 1 (cond (m / 4 % 16 == 3) 2 (cond (m / 4 % 16 == 7) 3 (cond (m / 4 % 16 == 15) 4 0)))

-- the record that the bit map lays out where a cursor stands, whatever follows it; none past the last byte
abbrev pub laid_ahead : List ℕ → Cursor → Option Record
laid_ahead bs from = cond (nat_lt from.at (length bs)) (Some (laid from.number from.at (slice_index bs from.at) (announced (slice_index bs from.at)))) None

-- the cursor behind it; a number that would not fit a machine word stays
abbrev pub behind : Cursor → Option Record → Cursor
behind from None = from
behind from (Some r) = record { at = r.end; number = cond (nat_lt (from.number + 1) (2 ^ 64)) (from.number + 1) from.number }

-- of the needs at p, number j is above the one before it, and is not i
abbrev pub InOrder : List ℕ → ℕ → ℕ → ℕ → Type 0
InOrder bs p i j = (0 < j → number_at bs (p + 2 * (j - 1)) 2 < number_at bs (p + 2 * j) 2) × (number_at bs (p + 2 * j) 2 ≢ i)
