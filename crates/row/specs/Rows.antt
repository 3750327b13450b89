-- What a row of cells means as a network.
use Rattle.std.specs.Prelude.{ℕ, ◌+◌, ◌-◌, ◌*◌, ◌/◌, ◌%◌, ◌<◌, min, cond, List, [], ◌∷◌, ◌++◌, length, Some, None, Option, ◌==◌, nat_lt, slice_index_or}
use Rattle.network.specs.Nets.{Ends, Graph, Net}
use Rattle.row.specs.declared.cell.Cell.{Cell}
use Rattle.row.specs.declared.cell.Way.{Way}
use Rattle.row.specs.declared.cell.Way.TheVariants.{Right, Left}
use Rattle.row.specs.Cells.{Capped, terminal_of, residual_of}

-- the cell past the end, which nothing reads
abbrev pub no_cell : Cell
no_cell = record { source = 0; sink = 0; right = 0; left = 0 }

abbrev pub cell_at : List Cell → ℕ → Cell
cell_at cells i = slice_index_or cells i no_cell

abbrev pub AllCapped : List Cell → Type 0
AllCapped cells = (i : ℕ) → i < length cells → Capped (cell_at cells i)

abbrev pub count : List Cell → ℕ
count cells = min (length cells) 4096

-- Cell i owns two arcs: one to cell i + 1, of code 2i, and its reverse, of code 2i + 1.
abbrev pub joins : Way → ℕ → Ends
joins Right i = record { tail = i; head = i + 1; reverse = 2 * i + 1 }
joins Left i = record { tail = i + 1; head = i; reverse = 2 * i }

abbrev pub owner : ℕ → ℕ
owner a = a / 2

abbrev pub way_of : ℕ → Way
way_of a = cond (a % 2 == 0) Right Left

-- the ends of the arc of a code among n cells
abbrev pub ends_among : ℕ → ℕ → Option Ends
ends_among n a = cond (nat_lt (owner a + 1) n) (Some (joins (way_of a) (owner a))) None

-- the arcs of a node among n cells: to the next cell, and to the cell before, where there is one
abbrev pub arcs_among : ℕ → ℕ → List ℕ
arcs_among n u = cond (nat_lt (u + 1) n) (2 * u ∷ []) [] ++ cond (nat_lt 0 u) ((2 * (u - 1) + 1) ∷ []) []

abbrev pub row_graph : ℕ → Graph
row_graph n = record { nodes = n; arcs = arcs_among n; ends = ends_among n }

abbrev pub of_cells : List Cell → Net
of_cells cells = record {
  graph = row_graph (count cells);
  terminal = λ t u. terminal_of (cell_at cells u) t;
  residual = λ a. residual_of (cell_at cells (owner a)) (way_of a);
}
