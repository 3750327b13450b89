use Rattle.std.proofs.Common.{◌≡◌, ◌+◌, ◌<◌, set, ap, ◌∙◌, arith}
use Rattle.std.proofs.lemmas.Bool.Decides.{nat_tests}
use Rattle.network.specs.Answers.{done, shift_answer}
use Rattle.row.specs.Cells.{moved}
use Rattle.row.specs.Rows.{cell_at, count, of_cells, owner, way_of}
use Rattle.row.proofs.Cells.{value_moved}
use Rattle.row.proofs.calls.RowNetwork.shift.Goals as goal

pub returns-clause-after : goal.returns-clause-after
returns-clause-after c =
    let cells = c.args.self.now.cells.now in
    let a = c.args.arc in
    let x = c.args.amount in
    let at : c.in_ok-cell.cell ≡ owner a = grind (arith, nat_tests) in
    let is : c.in_ok-self.field-0 ≡ moved (cell_at cells (owner a)) (way_of a) x = grind (arith, nat_tests) in
    let inside : owner a + 1 < count cells = grind (arith, nat_tests) in
    let accepted : shift_answer (of_cells cells) a x ≡ done = grind (arith, nat_tests) in
    rw (accepted, at) (ap (λ r. of_cells (set cells (owner a) r)) is ∙ value_moved cells a x inside)
