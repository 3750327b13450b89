use Rattle.std.proofs.Common.{◌*◌, sym, arith, ◌∙◌}
use Rattle.std.proofs.lemmas.List.{length-take-le}
use Rattle.tile.proofs.Telling.{arc_numbered}
use Rattle.tile.proofs.tile.Tile.arc.Goals as goal

pub returns : goal.returns
returns c =
    let x = c.args.self.now in
    let n = x.width * x.height in
    let long = length-take-le n x.table.now x.room in
    sym (arc_numbered x.width x.table.now n c.args.number c.args.node x.room c.requires.small (rw long at c.requires.there) ∙ grind arith)
