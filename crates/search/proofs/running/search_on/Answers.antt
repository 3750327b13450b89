use Rattle.std.proofs.Common.{ℕ, ap, ◌∙◌, arith}
use Rattle.search.proofs.Turns.{grown_settled, restaged_settled, bridge_pauses, ended, steps_more, bounded_more, nodes_more, cost_falls, words_more}
use Rattle.search.proofs.running.search_on.Goals as goal

pub returns-then-is_short-clause-searched : goal.returns-then-is_short-clause-searched
returns-then-is_short-clause-searched g c =
    let grown = c.in-Some.ensures in
    bridge_pauses c.loop-bridge.trail c.loop-bridge.log (g.N.Network.lawful c.loop-bridge.net) (grown_settled c.loop-bridge.invariant.0.settled grown.grows grown.trees.0) grown.trees.1 (omega arith)

pub augment-requires-clause-trees : goal.augment-requires-clause-trees
augment-requires-clause-trees g c = grown_settled c.loop-bridge.invariant.0.settled c.in-Some.ensures.grows c.in-Some.ensures.trees.0

pub adopt-requires-clause-fresh : goal.adopt-requires-clause-fresh
adopt-requires-clause-fresh g c =
    let same = c.augment.ensures.stages ∙ c.in-Some.ensures.grows.stages in
    λ u. omega (arith, c.loop-bridge.invariant.0.stages u, ap (λ (s : ℕ → ℕ). s u) same)

pub loop-bridge-smaller : goal.loop-bridge-smaller
loop-bridge-smaller g c = cost_falls (g.N.Network.lawful c.loop-bridge.net) c.augment.ensures.further

pub loop-bridge-preserved : goal.loop-bridge-preserved
loop-bridge-preserved g c =
    let l = g.N.Network.lawful c.loop-bridge.net in
    let (turn, kept) = c.loop-bridge.invariant in
    let further = c.augment.ensures.further in
    let after = c.adopt.ensures in (
      record {
        settled = restaged_settled c.stage_after-stage.ensures.trees after.trees after.adopted;
        stages = c.stage_after-stage.ensures.stages;
        words = words_more further c.augment.auto.trail;
        bounded = bounded_more l turn.bounded further;
        steps = steps_more turn.steps further;
        nodes = nodes_more l further ∙ turn.nodes;
      },
      g.N.Network.keeping.then _ _ _ kept c.augment.ensures.kept,
    )

pub returns-clause-searched : goal.returns-clause-searched
returns-clause-searched g c =
    let grown = c.in_default.ensures in
    ended (g.N.Network.lawful c.loop-bridge.net) (grown_settled c.loop-bridge.invariant.0.settled grown.grows grown.trees.0) grown.trees.1
