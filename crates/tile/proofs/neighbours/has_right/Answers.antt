use Rattle.std.proofs.Common.{◌≡◌, ◌+◌, true, ◌∙◌, arith}
use Rattle.std.proofs.lemmas.Bool.{cases_Bool, lt-ltb}
use Rattle.std.specs.Prelude.{nat_lt}
use Rattle.tile.specs.Grids.{goes_on}
use Rattle.tile.proofs.Rows.{row_goes_on}
use Rattle.tile.proofs.neighbours.has_right.Goals as goal

pub returns-then-column-width : goal.returns-then-column-width
returns-then-column-width c =
    let goes : goes_on c.args.width (c.args.pixel + 1) ≡ true = row_goes_on c.args.width c.args.pixel c.requires.some ∙ lt-ltb _ c.args.width (omega (arith, c.if-column-width.true, c.requires.column)) in
    rw goes (grind (arith, cases_Bool (nat_lt (c.args.pixel + 1) c.args.pixels)))
