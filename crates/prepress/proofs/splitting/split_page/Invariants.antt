use Rattle.std.proofs.Common.{◌≡◌, length, vec_items}
use Rattle.netpbm.specs.Values.{image_of}
use Rattle.prepress.proofs.Pages.{SplitTo}
use Rattle.prepress.proofs.splitting.split_page.Given as goal

-- the areas so far are split
abbrev pub invariant-loop-number : goal.invariant-loop-number
invariant-loop-number l = SplitTo (image_of l.page) l.number (vec_items l.black) l.energy × (length (vec_items l.table) ≡ 4096)
