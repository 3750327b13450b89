use Rattle.std.proofs.Common.{[], ◌∷◌, ◌++◌, arith}
use Rattle.search.specs.Trails.{node_path}
use Rattle.search.proofs.Logs.{logged_more, logged_bounded, logged_nodes}
use Rattle.search.proofs.Behind.{single, apart_more, apart_passed}
use Rattle.search.proofs.starting.start.Goals.{then-amount-gt0+else-is_short, else-amount-gt0}
use Rattle.search.proofs.starting.start.Goals as goal

pub amount_through-amount-requires : goal.amount_through-amount-requires
amount_through-amount-requires g c = omega (arith, logged_nodes c.loop-node.invariant.0)

pub returns-then-is_short-clause-started : goal.returns-then-is_short-clause-started
returns-then-is_short-clause-started g c =
    let v = g.N.Network.value c.loop-node.net in
    let u = c.loop-node.node in
    let x = c.amount_through-amount.result in
    let same = logged_nodes c.loop-node.invariant.0 in
    ((node_path u x, single v u x (omega arith) c.if-amount-gt0.true c.amount_through-amount.ensures), omega arith)

pub pass_through-requires-clause-there : goal.pass_through-requires-clause-there
pass_through-requires-clause-there g c = omega (arith, logged_nodes c.loop-node.invariant.0)

pub pass_through-requires-clause-room : goal.pass_through-requires-clause-room
pass_through-requires-clause-room g c = omega (arith, logged_nodes c.loop-node.invariant.0)

pub pass_through-requires-clause-bounded : goal.pass_through-requires-clause-bounded
pass_through-requires-clause-bounded g c = logged_bounded (g.N.Network.lawful c.args.net.now) c.loop-node.invariant.0.1

pub loop-node-preserved : goal.loop-node-preserved
loop-node-preserved g c =
    let v = g.N.Network.value c.loop-node.net in
    let u = c.loop-node.node in
    let x = c.amount_through-amount.result in
    let ((ps, logged), apart, kept) = c.loop-node.invariant in
    elim c.if-amount-gt0.branch [
      | then-amount-gt0+else-is_short w ↦
          let further = w.pass_through.ensures.further in
          rw (w.net-is, w.trail-is, w.log-is) ((ps ++ node_path u x ∷ [], logged_more logged further), apart_passed v _ u x apart c.amount_through-amount.ensures further.value, g.N.Network.keeping.then _ _ _ kept w.pass_through.ensures.kept)
      | else-amount-gt0 w ↦ rw (w.net-is, w.trail-is, w.log-is) ((ps, logged), apart_more v u apart (λ some more. omega arith), kept)
    ]

pub returns-clause-started : goal.returns-clause-started
returns-clause-started g c =
    let (logged, apart, _) = c.loop-node.invariant in
    let same = logged_nodes logged in
    λ u there. apart u (omega arith)
