use Rattle.std.proofs.Common.{false, refl, ap, ◌∙◌, arith}
use Rattle.trees.specs.declared.ring.Ring.{Ring}
use Rattle.trees.specs.Forests.{forest, slots, with_queued}
use Rattle.trees.proofs.Queueing.{none_queued, sound_picked, sound_is}
use Rattle.search.proofs.table.Table.pick.Goals as goal

pub returns-then-count-eq0 : goal.returns-then-count-eq0
returns-then-count-eq0 c =
    let ws = c.args.self.now.work.now in
    (refl, none_queued (forest ws) (slots ws) c.args.self.now.queues c.args.lane c.args.self.now.kept (cc))

pub invariant_of-self-clause-kept : goal.invariant_of-self-clause-kept
invariant_of-self-clause-kept c =
    let ws = c.args.self.now.work.now in
    let q = c.args.self.now.queues in
    let l = c.args.lane in
    let is = rw c.get-head.ensures at c.get-node.ensures in
    let rings = rw (c.place_after.ensures, c.get-head.ensures) at c.set.ensures in
    sound_is (c.dequeue.ensures.trees ∙ ap (λ x. with_queued (forest ws) l x false) is) c.dequeue.ensures.places rings (sound_picked (forest ws) (slots ws) q l c.args.self.now.kept (omega (arith, ap (λ (r : Ring). r.count) c.get-head.ensures)))
