use Rattle.std.proofs.Common.{◌≡◌, ◌<◌, filter, length, sym, ap, subst, ◌∙◌, arith}
use Rattle.std.proofs.lemmas.Bool.{lt-ltb}
use Rattle.std.proofs.lemmas.Bool.Decides.{nat_tests}
use Rattle.std.specs.Prelude.{Ok}
use Rattle.std.specs.List.{slice_get}
use Rattle.tile.specs.Grids.{directions, directions_of}
use Rattle.tile.specs.Pixels.{has}
use Rattle.tile.specs.Tables.{pixel_at}
use Rattle.tile.specs.Values.{pixels_of}
use Rattle.tile.proofs.Telling.{directions_told, there_answer}
use Rattle.tile.proofs.tile.Tile.direction_at.Goals as goal

pub returns : goal.returns
returns c =
    let x = c.args.self.now in
    let v = c.args.node in
    let k = c.args.place in
    let pixels = pixels_of x in
    let there : v < length pixels = grind (arith, nat_tests) in
    let same : c.in_ok-pixel.pixel ≡ pixel_at pixels v = grind (arith, nat_tests) in
    let record_tells : c.at.result ≡ slice_get (filter (has (pixel_at pixels v).neighbours) directions) k = subst (λ p. c.at.result ≡ slice_get (filter (has p.neighbours) directions) k) same c.at.ensures in
    let told : c.at.result ≡ slice_get (directions_of x.width (length pixels) v) k = record_tells ∙ ap (λ ds. slice_get ds k) (directions_told x.width pixels v x.told there) in
    ap Ok told ∙ sym (there_answer x.width pixels v (slice_get (directions_of x.width (length pixels) v) k) (lt-ltb v (length pixels) there))
