use Rattle.std.proofs.Common.{◌<◌, true, set, length, refl, ap, ◌∙◌, arith, length-set}
use Rattle.trees.specs.Forests.{Forest, work_at, with_queued}
use Rattle.trees.proofs.Tables.{put_slots, forest_queued, forest_slots, slots_put, slots_same}
use Rattle.search.proofs.table.enqueue.Goals as goal

pub returns : goal.returns
returns c =
    let ws = c.args.work.now in
    let w = put_slots c.set.new.self (work_at ws c.args.place) in
    let there : c.args.node < length (set ws c.args.place w) = omega (arith, length-set ws c.args.place w, c.requires.node) in
    record {
      trees = forest_queued (set ws c.args.place w) _ _ _ _ there c.set-2.ensures ∙ ap (λ (f : Forest). with_queued f c.args.lane c.args.node true) (forest_slots ws c.args.place _ c.requires.place);
      places = slots_same (set ws c.args.place w) _ _ there refl ∙ slots_put ws c.args.place _ _ _ c.requires.place c.set.ensures;
    }
