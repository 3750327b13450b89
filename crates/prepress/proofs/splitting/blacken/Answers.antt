use Rattle.std.proofs.Common.{◌≡◌, ◌<◌, ap, ◌∙◌, arith}
use Rattle.std.proofs.lemmas.List.{get_or_default}
use Rattle.network.specs.declared.mark.Mark.TheVariants.{In, Out}
use Rattle.prepress.specs.Areas.{pixel_count}
use Rattle.prepress.specs.Splits.{is_line, lines}
use Rattle.prepress.proofs.Areas.{place_inside}
use Rattle.prepress.proofs.Blackening.{blackened_more}
use Rattle.prepress.proofs.splitting.blacken.Goals as goal

pub bounds-black-place : goal.bounds-black-place
bounds-black-place c =
    let there : c.loop-pixel.pixel < pixel_count c.args.area = omega (arith, c.loop-pixel-test.true, c.requires.pixels) in
    omega (arith, c.place.ensures, place_inside c.args.width c.args.height c.loop-pixel.pixel c.args.area c.requires.area there, c.requires.whole, c.loop-pixel.invariant.whole)

pub loop-pixel-preserved : goal.loop-pixel-preserved
loop-pixel-preserved c =
    let there : c.loop-pixel.pixel < pixel_count c.args.area = omega (arith, c.loop-pixel-test.true, c.requires.pixels) in
    let k = c.loop-pixel.pixel in
    let line : c.is_line.result ≡ lines c.args.marks.now k = c.is_line.ensures ∙ ap is_line (get_or_default c.args.marks.now k In Out c.loop-pixel-test.true) in
    rw c.place.ensures (blackened_more c.args.width c.args.height c.args.area k c.args.marks.now c.args.black.now c.loop-pixel.black c.is_line.result c.requires.area there c.requires.whole line c.loop-pixel.invariant)
