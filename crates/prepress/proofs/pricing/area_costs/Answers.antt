use Rattle.std.proofs.Common.{◌≡◌, suc, ◌+◌, ap, ◌∙◌, sym, subst, arith}
use Rattle.std.specs.List.{flat_map, range_with_len}
use Rattle.netpbm.specs.Values.{image_of}
use Rattle.netpbm.proofs.Pixels.{flat_map-range}
use Rattle.prepress.specs.Cuts.{Bytes}
use Rattle.prepress.specs.Greys.{pixel_costs}
use Rattle.prepress.proofs.Costs.{more_bytes}
use Rattle.prepress.proofs.pricing.area_costs.Goals as goal

pub loop-pixel-preserved : goal.loop-pixel-preserved
loop-pixel-preserved c =
    let costs = pixel_costs (image_of c.args.page.now) c.args.area in
    let k = c.loop-pixel.pixel in
    let next : k + 1 ≡ suc k = omega arith in
    let (so_far, bytes) = c.loop-pixel.invariant in
    let more = c.in_ok-extend_from_slice.ensures.items in (
      more ∙ rw (so_far, c.pixel_costs.ensures.costs) (sym (ap (λ n. flat_map costs (range_with_len 0 n)) next ∙ flat_map-range costs 0 k k (omega arith))),
      subst Bytes (sym more) (more_bytes _ _ bytes c.pixel_costs.ensures.bytes),
    )
