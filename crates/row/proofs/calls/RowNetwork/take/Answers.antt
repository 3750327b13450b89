use Rattle.std.proofs.Common.{◌≡◌, ◌-◌, ◌<◌, set, ap, ◌∙◌, arith}
use Rattle.std.proofs.lemmas.Bool.Decides.{nat_tests}
use Rattle.network.specs.Answers.{done, take_answer}
use Rattle.row.specs.Cells.{terminal_of, put_terminal}
use Rattle.row.specs.Rows.{cell_at, count, of_cells}
use Rattle.row.proofs.Cells.{value_put}
use Rattle.row.proofs.calls.RowNetwork.take.Goals as goal

pub returns-clause-after : goal.returns-clause-after
returns-clause-after c =
    let cells = c.args.self.now.cells.now in
    let t = c.args.terminal in
    let u = c.args.node in
    let left = terminal_of (cell_at cells u) t - c.args.amount in
    let is : c.with_terminal.result ≡ put_terminal (cell_at cells u) t left = grind (arith, nat_tests) in
    let inside : u < count cells = grind (arith, nat_tests) in
    let accepted : take_answer (of_cells cells) t u c.args.amount ≡ done = grind (arith, nat_tests) in
    rw accepted (ap (λ r. of_cells (set cells u r)) is ∙ value_put cells t u left inside)
