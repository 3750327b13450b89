use Rattle.std.proofs.Common.{◌≡◌, ◌++◌, map, take, drop}
use Rattle.row.specs.Cells.{capped}
use Rattle.row.proofs.Row.new.Given as goal

abbrev pub invariant-loop-cell : goal.invariant-loop-cell
invariant-loop-cell l = l.cells ≡ map capped (take l.cell-index l.initial.cells) ++ drop l.cell-index l.initial.cells
