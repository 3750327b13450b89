use Rattle.std.proofs.Common.{◌≡◌, vec_items}
use Rattle.std.specs.List.{flat_map, range_with_len}
use Rattle.netpbm.specs.Values.{image_of}
use Rattle.prepress.specs.Cuts.{Bytes}
use Rattle.prepress.specs.Greys.{pixel_costs}
use Rattle.prepress.proofs.pricing.area_costs.Given as goal

abbrev pub invariant-loop-pixel : goal.invariant-loop-pixel
invariant-loop-pixel l = (vec_items l.costs ≡ flat_map (pixel_costs (image_of l.page) l.area) (range_with_len 0 l.pixel)) × Bytes (vec_items l.costs)
