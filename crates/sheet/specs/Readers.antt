-- What a reader is: its sheet and its cursor.
use Rattle.std.specs.Prelude.{ℕ, List}
use Rattle.sheet.specs.declared.reading.Reader.{Reader}
use Rattle.sheet.specs.Places.{Cursor}

-- the bytes that it borrows
abbrev pub sheet_of : Reader → List ℕ
sheet_of r = r.sheet.now

-- where it stands
abbrev pub cursor : Reader → Cursor
cursor r = record { at = r.at; number = r.number }
