use Rattle.std.proofs.Common.{◌≡◌, ◌+◌, ◌<◌, Some, arith}
use Rattle.trees.proofs.Ending.{is_of_some}
use Rattle.search.specs.Tables.{forest_of}
use Rattle.search.proofs.Neighbours.{met, past_last, few_numbers}
use Rattle.search.proofs.Scanning.{scanning_there, scanning_more, scanning_grown, scanning_ends}
use Rattle.search.proofs.growth.scan_for.Goals as goal
use Rattle.search.proofs.growth.scan_for.Goals.{else-not-is_in-via-then-not-is_in+else-next-gt0, else-not-is_in-via-else-not-is_in}

pub is_in-requires : goal.is_in-requires
is_in-requires g c = scanning_there g.N.Network.value (g.N.Network.lawful c.args.net.now) c.loop-next.invariant c.in-Some.ensures.steps

pub tree-requires : goal.tree-requires
tree-requires g c = scanning_there g.N.Network.value (g.N.Network.lawful c.args.net.now) c.loop-next.invariant c.in-Some.ensures.steps

pub hanging-requires : goal.hanging-requires
hanging-requires g c =
    let (k, stands, s) = c.loop-next.invariant in
    let (b, _) = met g.N.Network.value stands c.in-Some.ensures.steps in
    let (arc, node) = few_numbers (g.N.Network.value c.args.net.now).graph c.args.terminal c.in-Some.next.outward b.ends (g.N.Network.lawful c.args.net.now).graph b.out in
    record { arc = arc; node = rw (← b.from) node }

pub join-requires : goal.join-requires
join-requires g c = scanning_there g.N.Network.value (g.N.Network.lawful c.args.net.now) c.loop-next.invariant c.in-Some.ensures.steps

pub loop-next-preserved-then-next-gt0 : goal.loop-next-preserved-then-next-gt0
loop-next-preserved-then-next-gt0 g c =
    let (k, stands, s) = c.loop-next.invariant in
    let (beside, on) = met g.N.Network.value stands c.in-Some.ensures.steps in
    (k + 1, on, scanning_grown (g.N.Network.lawful c.args.net.now) s beside (omega arith) (cc) (rw c.hanging.ensures at c.join.ensures))

pub loop-next-preserved : goal.loop-next-preserved
loop-next-preserved g c =
    let (k, stands, s) = c.loop-next.invariant in
    let (beside, on) = met g.N.Network.value stands c.in-Some.ensures.steps in
    let inside : 0 < c.in-Some.next.outward_residual → (forest_of c.loop-next.table).tree c.in-Some.next.node ≡ Some c.args.terminal = λ some. elim c.else-not-is_in.branch [
      | else-not-is_in-via-then-not-is_in+else-next-gt0 w ↦ absurd (omega (arith, some, w.if-next-gt0))
      | else-not-is_in-via-else-not-is_in w ↦ is_of_some _ _ (grind (arith, c.is_in.ensures, w.if-not-is_in))
    ] in
    (k + 1, on, scanning_more (g.N.Network.lawful c.args.net.now) s beside inside)

pub returns-clause-trees : goal.returns-clause-trees
returns-clause-trees g c =
    let (k, stands, s) = c.loop-next.invariant in
    scanning_ends (g.N.Network.lawful c.args.net.now) s (past_last g.N.Network.value stands c.in-None.ensures.steps)
