-- What a row means, that it keeps the laws of a network, and what else it keeps. Assumes nothing.
use Rattle.std.specs.Prelude.{◌≡◌, List, length, drop, refl}
use Rattle.std.specs.Borrow.{MutBor}
use Rattle.std.proofs.Common.{◌∙◌}
use Rattle.network.specs.Nets.{Net, Lawful}
use Rattle.network.specs.Keeping.{Keeping}
use Rattle.row.specs.declared.Row.{Row}
use Rattle.row.specs.declared.cell.Cell.{Cell}
use Rattle.row.specs.Rows.{count, of_cells}
use Rattle.row.specs.Laws.{lawful}

-- the slice that the row borrows, and its cells
abbrev pub slice_of : Row → MutBor (List Cell)
slice_of row = row.cells

abbrev pub cells_of : Row → List Cell
cells_of row = (slice_of row).now

abbrev pub row_value : Row → Net
row_value row = of_cells (cells_of row)

pub row_lawful : (row : Row) → Lawful (row_value row)
row_lawful row = lawful (cells_of row) row.bounds

-- the cells from 4,096 on, which are no nodes
abbrev pub left_out : Row → List Cell
left_out row = drop (count (cells_of row)) (cells_of row)

-- y lies over the same slice as x, which is as long as it was, and whose cells that are no nodes are as they were
abbrev pub row_keeps : Row → Row → Type 0
row_keeps x y = ((slice_of y).ghost_name ≡ (slice_of x).ghost_name) × (length (cells_of y) ≡ length (cells_of x)) × (left_out y ≡ left_out x)

pub row_keeping : Keeping row_keeps
row_keeping = record {
  same = λ x. (refl, refl, refl);
  then = λ x y z first second. (second.0 ∙ first.0, second.1 ∙ first.1, second.2 ∙ first.2);
}
