use Rattle.std.proofs.Common.{ap, ◌∙◌}
use Rattle.network.specs.Nets.{Ends}
use Rattle.network.proofs.Laws.{ends_are}
use Rattle.trees.proofs.Disowning.{bared_is, send_all, send_part}
use Rattle.search.specs.Tables.{forest_of}
use Rattle.search.proofs.carrying.send.Goals as goal

pub returns-then-residual-amount-clause-trees : goal.returns-then-residual-amount-clause-trees
returns-then-residual-amount-clause-trees g c =
    let v = g.N.Network.value c.args.net.now in
    let l = g.N.Network.lawful c.args.net.now in
    let f = forest_of c.args.table.now in
    let a = c.args.arc in
    let x = c.args.amount in
    let (e, is, onward) = c.requires.onward in
    let ends = ends_are v.graph a e is in
    let bare = bared_is f _ _ a _ _ e c.disown.ensures c.disown-then-residual-amount.ensures (c.near_end-tail.ensures ∙ ap (λ (y : Ends). y.tail) ends) (c.near_end-head.ensures ∙ ap (λ (y : Ends). y.head) ends) in
    rw (c.shift_along.ensures.value, bare) (send_all v f a x e l c.requires.trees is onward c.requires.room)

pub returns-else-residual-amount-clause-trees : goal.returns-else-residual-amount-clause-trees
returns-else-residual-amount-clause-trees g c =
    let (e, is, onward) = c.requires.onward in
    rw c.shift_along-else-residual-amount.ensures.value (send_part _ _ c.args.arc c.args.amount e (g.N.Network.lawful c.args.net.now) c.requires.trees is onward c.requires.room (λ all. c.if-residual-amount.false (c.residual.ensures ∙ all)))
