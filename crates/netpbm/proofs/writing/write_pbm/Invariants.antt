use Rattle.std.proofs.Common.{◌≡◌, ◌++◌}
use Rattle.std.specs.String.{string_bytes}
use Rattle.netpbm.specs.Bitmaps.{head_text, pixels_text}
use Rattle.netpbm.specs.Values.{image_of}
use Rattle.netpbm.proofs.writing.write_pbm.Given as goal

-- the text so far is that of the pixels so far
abbrev pub invariant-loop-pixel : goal.invariant-loop-pixel
invariant-loop-pixel l = string_bytes l.text ≡ head_text (image_of l.page) l.fn.tiles l.fn.energy ++ pixels_text l.page.width l.black l.pixel
