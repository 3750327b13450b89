use Rattle.std.proofs.Common.{arith, ◌∙◌}
use Rattle.trees.proofs.Sending.{take_part_trees, take_all_trees}
use Rattle.search.specs.Tables.{forest_of}
use Rattle.search.proofs.carrying.take_end.Goals as goal

pub returns-then-terminal_residual-amount-clause-trees : goal.returns-then-terminal_residual-amount-clause-trees
returns-then-terminal_residual-amount-clause-trees g c =
    let v = g.N.Network.value c.args.net.now in
    let t = c.args.terminal in
    let u = c.args.node in
    let x = c.args.amount in
    rw (c.take_from.ensures.value, c.orphan.ensures) (take_all_trees v (forest_of c.args.table.now) t u x c.requires.trees c.requires.there (omega (arith, c.requires.some)) (omega (arith, c.terminal_residual.ensures, c.if-terminal_residual-amount.true)))

pub returns-else-terminal_residual-amount-clause-trees : goal.returns-else-terminal_residual-amount-clause-trees
returns-else-terminal_residual-amount-clause-trees g c =
    let v = g.N.Network.value c.args.net.now in
    let t = c.args.terminal in
    let u = c.args.node in
    let x = c.args.amount in
    rw c.take_from-else-terminal_residual-amount.ensures.value (take_part_trees v (forest_of c.args.table.now) t u x c.requires.trees (omega (arith, c.requires.room, c.terminal_residual.ensures, c.if-terminal_residual-amount.false)))
