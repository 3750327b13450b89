use Rattle.std.proofs.Common.{◌++◌, ap, ◌∙◌, ◌≡◌, ◌*◌, arith}
use Rattle.std.specs.String.{string_bytes}
use Rattle.netpbm.specs.Bitmaps.{head_text, pixels_text}
use Rattle.netpbm.specs.Values.{image_of}
use Rattle.netpbm.proofs.Pixels.{text_more}
use Rattle.netpbm.proofs.writing.write_pbm.Goals as goal
use Rattle.netpbm.proofs.Lines.{written_plain}

pub loop-pixel-preserved : goal.loop-pixel-preserved
loop-pixel-preserved c =
    let text = string_bytes c.loop-pixel.text in
    text_more (head_text (image_of c.args.page.now) c.args.tiles c.args.energy) text _ c.args.page.now.width c.args.black.now c.loop-pixel.pixel c.loop-pixel.invariant (c.in_ok-push_str.ensures.bytes ∙ ap (λ t. text ++ t) cc)

pub returns-clause-plain : goal.returns-clause-plain
returns-clause-plain c =
    let page = c.args.page.now in
    let all : c.loop-pixel.pixel ≡ page.width * page.height = omega arith in
    written_plain (string_bytes c.loop-pixel.text) (image_of page) c.args.black.now c.args.tiles c.args.energy page.within (omega arith) (omega arith) (c.loop-pixel.invariant ∙ ap (λ n. head_text (image_of page) c.args.tiles c.args.energy ++ pixels_text page.width c.args.black.now n) all)
