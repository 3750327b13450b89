-- Lemmas on the cells of a row: capped, and with one of them changed.
use Rattle.std.proofs.Common.{◌≡◌, ℕ, ◌+◌, ◌<◌, cond, eqb, List, map, length, set, arith, rules, length-set}
use lib.ListN.{length-map}
use Rattle.std.proofs.lemmas.List.{get_or-map, get_or-set_same, get_or-set_other}
use Rattle.std.proofs.lemmas.Bool.Decides.{nat_tests}
use Rattle.network.specs.declared.terminal.Terminal.{Terminal}
use Rattle.network.specs.Nets.{with_terminal, shifted}
use Rattle.row.specs.declared.cell.Cell.{Cell}
use Rattle.row.specs.Cells.{capped, terminal_of, put_terminal, residual_of, moved}
use Rattle.row.specs.Rows.{AllCapped, cell_at, no_cell, count, owner, way_of, row_graph, of_cells}

pub all_capped : (cells : List Cell) → AllCapped (map capped cells)
all_capped cells i h =
    let inside : i < length cells = omega (arith, length-map cells capped) in
    rw (get_or-map capped cells i no_cell no_cell inside) (omega arith)

cell_at_set : (cells : List Cell) (i : ℕ) (c : Cell) (k : ℕ) → i < length cells → cell_at (set cells i c) k ≡ cond (eqb k i) c (cell_at cells k)
cell_at_set cells i c k h = grind (arith, nat_tests, get_or-set_same, get_or-set_other)

count_set : (cells : List Cell) (i : ℕ) (c : Cell) → count (set cells i c) ≡ count cells
count_set cells i c = simp length-set

-- a cell with another terminal residual makes a row with another terminal residual of that node
pub value_put : (cells : List Cell) (t : Terminal) (u x : ℕ) → u < count cells → of_cells (set cells u (put_terminal (cell_at cells u) t x)) ≡ with_terminal (of_cells cells) t u x
value_put cells t u x h = search rules

-- a cell with x moved between its two residuals makes a row with x shifted along the arc
pub value_moved : (cells : List Cell) (a x : ℕ) → owner a + 1 < count cells → of_cells (set cells (owner a) (moved (cell_at cells (owner a)) (way_of a) x)) ≡ shifted (of_cells cells) a x
value_moved cells a x h =
    let inside : owner a < length cells = omega arith in
    let c = moved (cell_at cells (owner a)) (way_of a) x in
    let v = of_cells cells in
    let terminals : (s : Terminal) (k : ℕ) → terminal_of (cell_at (set cells (owner a) c) k) s ≡ v.terminal s k = λ s k. let g = cell_at_set cells (owner a) c k inside in grind (arith, nat_tests) in
    let residuals : (b : ℕ) → residual_of (cell_at (set cells (owner a) c) (owner b)) (way_of b) ≡ (shifted v a x).residual b = λ b. let g = cell_at_set cells (owner a) c (owner b) inside in grind (arith, nat_tests) in
    λ i. record { graph = row_graph (count_set cells (owner a) c i); terminal = λ s k. terminals s k i; residual = λ b. residuals b i }
