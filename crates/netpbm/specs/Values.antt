-- What a page is as a value.
use Rattle.std.specs.Prelude.{Ok, Err, Result, vec_items}
use Rattle.netpbm.specs.declared.page.Page.{Page}
use Rattle.netpbm.specs.declared.refusal.ImageRefusal.{ImageRefusal}
use Rattle.netpbm.specs.Images.{Image}

-- its image
abbrev pub image_of : Page → Image
image_of p = record { width = p.width; height = p.height; greys = vec_items p.greys }

-- the image of the page that was read, or the refusal
abbrev pub image_told : Result Page ImageRefusal → Result Image ImageRefusal
image_told (Ok p) = Ok (image_of p)
image_told (Err x) = Err x
