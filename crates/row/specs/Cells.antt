-- One cell: its residuals by terminal and by arc, and their bounds.
use Rattle.std.specs.Prelude.{ℕ, ◌+◌, ◌-◌, ◌^◌, ◌≤◌, min}
use Rattle.network.specs.declared.terminal.Terminal.{Terminal}
use Rattle.network.specs.declared.terminal.Terminal.TheVariants.{Source, Sink}
use Rattle.row.specs.declared.cell.Cell.{Cell}
use Rattle.row.specs.declared.cell.Way.{Way}
use Rattle.row.specs.declared.cell.Way.TheVariants.{Right, Left}

-- every residual is at most 2^40, and so is the sum of those of an arc and its reverse
abbrev pub Capped : Cell → Type 0
Capped c = (c.source ≤ 2 ^ 40) × (c.sink ≤ 2 ^ 40) × (c.right + c.left ≤ 2 ^ 40)

-- no amount above 2^39, so that two of them add up to 2^40 at most
abbrev pub capped : Cell → Cell
capped c = record {
  source = min c.source (2 ^ 39);
  sink = min c.sink (2 ^ 39);
  right = min c.right (2 ^ 39);
  left = min c.left (2 ^ 39);
}

abbrev pub terminal_of : Cell → Terminal → ℕ
terminal_of c Source = c.source
terminal_of c Sink = c.sink

-- c with another terminal residual
abbrev pub put_terminal : Cell → Terminal → ℕ → Cell
put_terminal c Source x = record { source = x; sink = c.sink; right = c.right; left = c.left }
put_terminal c Sink x = record { source = c.source; sink = x; right = c.right; left = c.left }

abbrev pub residual_of : Cell → Way → ℕ
residual_of c Right = c.right
residual_of c Left = c.left

-- c with x moved from the residual of one arc to that of the other
abbrev pub moved : Cell → Way → ℕ → Cell
moved c Right x = record { source = c.source; sink = c.sink; right = c.right - x; left = c.left + x }
moved c Left x = record { source = c.source; sink = c.sink; right = c.right + x; left = c.left - x }
