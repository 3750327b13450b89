use Rattle.trees.proofs.Disowning.{carries_more}
use Rattle.trees.proofs.Ways.{sending_next, sending_more}
use Rattle.search.proofs.carrying.send_along.Goals as goal

pub send-requires : goal.send-requires
send-requires g c =
    let s = c.loop-arc.invariant.0 in
    let (onward, room) = sending_next c.loop-arc-test.true s in
    record { trees = s.trees; onward = onward; room = room }

pub loop-arc-preserved : goal.loop-arc-preserved
loop-arc-preserved g c =
    let sent = c.send.ensures in (
      sending_more (g.N.Network.lawful c.loop-arc.net) c.loop-arc-test.true sent.value sent.trees sent.same.trees c.loop-arc.invariant.0,
      carries_more _ _ _ c.loop-arc.invariant.1 sent.same,
      g.N.Network.keeping.then _ _ _ c.loop-arc.invariant.2 sent.kept,
    )
