use Rattle.std.proofs.Common.{◌≡◌, Ok, ap, sym, ◌∙◌, vec_items}
use Rattle.netpbm.specs.Images.{image_read}
use Rattle.netpbm.specs.Bitmaps.{pbm_text}
use Rattle.netpbm.specs.Values.{image_of, image_told}
use Rattle.prepress.proofs.page_file.split_file.Goals as goal

pub returns : goal.returns
returns c =
    let i = image_of c.in-Ok.page in
    let split = c.in_ok-split.split in
    let read : image_read c.args.input.now ≡ Ok i = sym c.in_ok-page.ensures.image ∙ ap image_told c.in-Ok.is in
    (i, read, vec_items split.black, split.tiles, split.energy, c.in_ok-split.ensures.split, c.in_ok-text.ensures.text ∙ ap (λ black. pbm_text i black split.tiles split.energy) c.deref.ensures.value)
