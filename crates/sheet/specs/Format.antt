-- The order sheet as a definition: what an entry is, and the bytes that stand for it.
use Rattle.std.specs.Prelude.{ℕ, zero, suc, ◌+◌, ◌-◌, ◌*◌, ◌/◌, ◌%◌, ◌^◌, List, [], ◌∷◌, ◌++◌, length, Some, None, Option}
use Rattle.std.specs.List.{flat_map}

-- an entry as a sheet tells it: each amount is there or absent, and a need is the number of an entry
pub record Entry : Type 0 where
  pub earning : Option ℕ
  pub cost : Option ℕ
  pub needs : List ℕ

-- x in n bytes, the high byte first
unfoldable pub bytes : ℕ → ℕ → List ℕ
bytes zero x = []
bytes (suc n) x = bytes n (x / 256) ++ ((x % 256) ∷ [])

-- an amount's field: four bytes, or none where it is absent
abbrev pub amount_bytes : Option ℕ → List ℕ
amount_bytes None = []
amount_bytes (Some x) = bytes 4 x

-- the needs' fields: two bytes each
abbrev pub need_bytes : List ℕ → List ℕ
need_bytes ns = flat_map (bytes 2) ns

-- 1 where an amount is there, else 0
abbrev pub flag : Option ℕ → ℕ
flag None = 0
flag (Some x) = 1

-- bit 0 for the earning, bit 1 for the cost, and from bit 2 up a bit for each need
abbrev pub bit_map : Entry → ℕ
bit_map e = flag e.earning + 2 * flag e.cost + 4 * (2 ^ length e.needs - 1)

-- an entry's record: the bit map, then the fields whose bit stands, in bit order
unfoldable pub entry_bytes : Entry → List ℕ
entry_bytes e = bit_map e ∷ (amount_bytes e.earning ++ (amount_bytes e.cost ++ need_bytes e.needs))

-- a sheet: one record an entry, in order of number
unfoldable pub sheet_bytes : List Entry → List ℕ
sheet_bytes es = flat_map entry_bytes es
