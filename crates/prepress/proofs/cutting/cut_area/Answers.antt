use Rattle.std.proofs.Common.{◌≡◌, ◌≤◌, length, ap, subst, arith, rules, vec_items}
use Rattle.std.proofs.lemmas.Result.{IfOk-weaker}
use Rattle.netpbm.specs.Values.{image_of}
use Rattle.tile.specs.Calls.{State}
use Rattle.tile.specs.Values.{tile_of}
use Rattle.prepress.specs.Areas.{pixel_count}
use Rattle.prepress.specs.Cuts.{Bytes}
use Rattle.prepress.specs.Greys.{area_costs}
use Rattle.prepress.proofs.Bests.{area_laid, tile_cut}
use Rattle.prepress.proofs.cutting.cut_area.Goals as goal

pub unwrap-requires : goal.unwrap-requires
unwrap-requires c =
    let i = image_of c.args.page.now in
    let s : State = tile_of c.new-tile.result in
    let costs : c.deref.result.now ≡ area_costs i c.args.area = search rules in
    let room : pixel_count c.args.area ≤ length s.table.now = omega (arith, ap (λ (o : State). length o.table.now) c.new-tile.ensures, c.requires.room) in
    (area_laid i c.args.area i.width i.height s _ c.deref.result.now c.lay.result c.requires.area room costs c.lay.ensures).0

pub returns-clause-cut : goal.returns-clause-cut
returns-clause-cut c =
    let i = image_of c.args.page.now in
    let s : State = tile_of c.new-tile.result in
    let costs : c.deref.result.now ≡ area_costs i c.args.area = search rules in
    let room : pixel_count c.args.area ≤ length s.table.now = omega (arith, ap (λ (o : State). length o.table.now) c.new-tile.ensures, c.requires.room) in
    let laid = (area_laid i c.args.area i.width i.height s _ c.deref.result.now c.lay.result c.requires.area room costs c.lay.ensures).1 in
    let bytes : Bytes (area_costs i c.args.area) = subst Bytes c.in_ok-costs.ensures.costs c.in_ok-costs.ensures.bytes in
    IfOk-weaker c.cheapest_cut.result _ _ (λ cut (cheapest, all). tile_cut i c.args.area s (tile_of c.lay.new.self) cut.cost (vec_items cut.marks) laid bytes cheapest all) c.cheapest_cut.ensures.cut
