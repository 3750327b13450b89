use Rattle.std.proofs.Common.{ap, arith}
use Rattle.trees.specs.declared.ring.Ring.{Ring}
use Rattle.trees.specs.Forests.{forest, slots}
use Rattle.trees.proofs.Queueing.{put_room, put_place, sound_put, sound_is}
use Rattle.search.proofs.table.Table.put.Goals as goal

pub overflow_add-head : goal.overflow_add-head
overflow_add-head c =
    let t = c.args.self.now in
    let ws = t.work.now in
    omega (arith, t.few, put_room (forest ws) (slots ws) _ c.args.lane c.args.node t.kept c.requires (cc), (t.kept c.args.lane).inside (omega (arith, c.requires)), ap (λ (r : Ring). r.head) c.get-head.ensures, ap (λ (r : Ring). r.count) c.get-head.ensures)

pub enqueue-requires-clause-place : goal.enqueue-requires-clause-place
enqueue-requires-clause-place c =
    let ws = c.args.self.now.work.now in
    rw (c.wrapped-place.ensures, c.get-head.ensures) (put_place (forest ws) (slots ws) _ c.args.lane c.args.node c.args.self.now.kept c.requires (cc))

pub overflow_add-longer : goal.overflow_add-longer
overflow_add-longer c =
    let ws = c.args.self.now.work.now in
    omega (arith, put_room (forest ws) (slots ws) _ c.args.lane c.args.node c.args.self.now.kept c.requires (cc), ap (λ (r : Ring). r.count) c.get-head.ensures)

pub invariant_of-self-clause-kept : goal.invariant_of-self-clause-kept
invariant_of-self-clause-kept c =
    let ws = c.args.self.now.work.now in
    let places = rw (c.wrapped-place.ensures, c.get-head.ensures) at c.enqueue.ensures.places in
    let rings = rw c.get-head.ensures at c.set.ensures in
    sound_is c.enqueue.ensures.trees places rings (sound_put (forest ws) (slots ws) c.args.self.now.queues c.args.lane c.args.node c.args.self.now.kept c.requires (cc))
