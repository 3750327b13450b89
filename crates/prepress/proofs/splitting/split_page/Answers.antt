use Rattle.std.proofs.Common.{◌≡◌, length, drop, arith, rules, vec_items}
use Rattle.std.proofs.lemmas.List.{take_at}
use Rattle.netpbm.specs.Images.{Image}
use Rattle.netpbm.specs.Values.{image_of}
use Rattle.prepress.proofs.Pages.{split_none, page_more, area_told, all_split}
use Rattle.prepress.proofs.Ones.{only_split}
use Rattle.prepress.proofs.splitting.split_page.Goals as goal

pub loop-number-init : goal.loop-number-init
loop-number-init c = (split_none (image_of c.args.page.now) (vec_items c.in_ok-black.black) (search rules), search rules)

pub cut_area-requires-clause-area : goal.cut_area-requires-clause-area
cut_area-requires-clause-area c =
    let told = area_told (image_of c.args.page.now) _ _ c.loop-number.number _ c.of-area.result c.width-width.ensures.width c.height-height.ensures.height c.area_count-tiles.ensures c.loop-number-test.true c.of-area.ensures in
    told.on

pub cut_area-requires-clause-room : goal.cut_area-requires-clause-room
cut_area-requires-clause-room c =
    let told = area_told (image_of c.args.page.now) _ _ c.loop-number.number _ c.of-area.result c.width-width.ensures.width c.height-height.ensures.height c.area_count-tiles.ensures c.loop-number-test.true c.of-area.ensures in
    omega (arith, told.few, c.deref_mut.ensures.len, c.loop-number.invariant.1)

pub blacken-requires-clause-area : goal.blacken-requires-clause-area
blacken-requires-clause-area c =
    let told = area_told (image_of c.args.page.now) _ _ c.loop-number.number _ c.of-area.result c.width-width.ensures.width c.height-height.ensures.height c.area_count-tiles.ensures c.loop-number-test.true c.of-area.ensures in
    rw (c.width-width.ensures.width, c.height-height.ensures.height) told.on

pub loop-number-preserved : goal.loop-number-preserved
loop-number-preserved c =
    let i : Image = image_of c.args.page.now in
    let n = c.loop-number.number in
    let told = area_told i _ _ n _ c.of-area.result c.width-width.ensures.width c.height-height.ensures.height c.area_count-tiles.ensures c.loop-number-test.true c.of-area.ensures in
    let page_long : length c.blacken.new.black ≡ c.loop-number.black.len = search rules in
    let table_long : length c.cut_area.new.table ≡ c.loop-number.table.len = search rules in
    let kept = drop (length c.blacken.new.black) c.loop-number.black.items in
    let records = drop (length c.cut_area.new.table) c.loop-number.table.items in
    (rw (take_at c.blacken.new.black kept c.loop-number.black.len page_long) (page_more i n c.loop-number.energy c.in_ok-cut.cut.cost _ c.of-area.result (vec_items c.in_ok-cut.cut.marks) _ (vec_items c.loop-number.black) _ c.blacken.new.black told c.width-width.ensures.width c.deref.ensures.value c.deref_mut-in-loop-number.ensures.value c.loop-number.invariant.0 c.in_ok-cut.ensures.cut c.blacken.ensures), rw (take_at c.cut_area.new.table records c.loop-number.table.len table_long) (search rules))

pub returns-clause-split : goal.returns-clause-split
returns-clause-split c =
    let i : Image = image_of c.args.page.now in
    all_split i c.loop-number.number c.area_count-tiles.result (vec_items c.loop-number.black) c.loop-number.energy (search rules) (search rules) c.loop-number.invariant.0

pub returns-clause-only : goal.returns-clause-only
returns-clause-only c =
    let i : Image = image_of c.args.page.now in
    only_split i (vec_items c.loop-number.black) c.area_count-tiles.result c.loop-number.energy (all_split i c.loop-number.number c.area_count-tiles.result (vec_items c.loop-number.black) c.loop-number.energy (search rules) (search rules) c.loop-number.invariant.0)
