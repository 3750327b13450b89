use Rattle.std.proofs.Common.{◌≡◌, sym, ap, ◌∙◌, arith}
use Rattle.std.specs.Prelude.{Ok, Some}
use Rattle.tile.specs.Grids.{number, direction_of}
use Rattle.tile.specs.Laws.{direction_again}
use Rattle.tile.specs.Values.{pixels_of}
use Rattle.tile.proofs.Telling.{whole_told}
use Rattle.tile.proofs.answering.TileNetwork.whole_arc_at.Goals as goal

pub returns : goal.returns
returns c =
    let x = c.args.self.now in
    let is : c.direction_at.result ≡ Ok (Some c.in-Some.direction) = grind arith in
    let d = c.in-Some.direction in
    let forth : c.number.result ≡ number d = c.number.ensures in
    let towards : direction_of c.number.result ≡ d = ap direction_of forth ∙ direction_again d in
    ap (λ a. Ok (Some a)) (rw (towards, forth) at c.arc.ensures) ∙ sym (whole_told x.width (pixels_of x) c.args.node c.args.place (Some c.in-Some.direction) (sym is ∙ c.direction_at.ensures))
