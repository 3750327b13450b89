-- How a need is written into a table.
use Rattle.std.specs.Prelude.{ℕ, ◌+◌, ◌-◌, ◌*◌, List, length, slice_set}
use Rattle.book.specs.declared.record.Record.{Record}
use Rattle.book.specs.Books.{binding}
use Rattle.book.specs.Records.{as_arc, needing, with_arc_more}
use Rattle.book.specs.Tables.{front}

-- entry u has w among its needs, and an arc more
abbrev pub need_noted : List Record → ℕ → ℕ → List Record
need_noted table u w = slice_set table u (needing (front table u) w)

-- entry w has an arc more
abbrev pub arc_counted : List Record → ℕ → List Record
arc_counted table w = slice_set table w (with_arc_more (front table w))

-- arc a leads to h, and has this residual
abbrev pub arc_written : List Record → ℕ → ℕ → ℕ → List Record
arc_written table a h x = let i = length table - 1 - a in slice_set table i (as_arc (front table i) h x)

-- the table with need number i: entry u needs entry w
abbrev pub need_written : List Record → ℕ → ℕ → ℕ → List Record
need_written table i u w = arc_written (arc_written (arc_counted (need_noted table u w) w) (2 * i) w binding) (2 * i + 1) u 0
