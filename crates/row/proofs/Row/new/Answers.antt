use Rattle.std.proofs.Common.{◌≡◌, map, sym, subst, arith, rules}
use Rattle.std.proofs.lemmas.Grind.{common_steps}
use Rattle.std.proofs.lemmas.List.Edits.{map_over_more}
use Rattle.row.specs.Cells.{capped}
use Rattle.row.specs.Rows.{AllCapped}
use Rattle.row.proofs.Cells.{all_capped}
use Rattle.row.proofs.Row.new.Goals as goal

pub loop-cell-preserved : goal.loop-cell-preserved
loop-cell-preserved c = search (rules, map_over_more capped)

pub invariant_of-result : goal.invariant_of-result
invariant_of-result c =
    let is : c.loop-cell.cells ≡ map capped c.args.cells.now = grind (arith, common_steps) in
    record { bounds = subst AllCapped (sym is) (all_capped c.args.cells.now) }
