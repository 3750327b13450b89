use Rattle.std.proofs.Common.{ℕ, ◌<◌, ◌≤◌, sym, ap, ◌∙◌, subst₂}
use Rattle.network.specs.declared.terminal.Terminal.TheVariants.{Sink}
use Rattle.network.specs.Nets.{Net}
use Rattle.network.specs.Paths.{shifted_along}
use Rattle.network.proofs.Carrying.{path_end, some_amount}
use Rattle.trees.proofs.Ways.{path_way}
use Rattle.search.specs.Tables.{forest_of}
use Rattle.search.proofs.carrying.carry.Goals as goal

pub take_end-requires-clause-some : goal.take_end-requires-clause-some
take_end-requires-clause-some g c = some_amount _ _ c.requires.path

pub send_along-requires-clause-way : goal.send_along-requires-clause-way
send_along-requires-clause-way g c =
    let begun = c.take_end.ensures in
    rw begun.value (path_way _ (forest_of c.args.table.now) (forest_of c.take_end.new.table) _ c.requires.path c.requires.onward begun.same.trees)

pub take_end-requires-2 : goal.take_end-requires-2
take_end-requires-2 g c =
    let path = c.requires.path in
    let x = c.args.path.amount in
    let sent = c.send_along.ensures in
    let value = sent.value ∙ ap (λ (v : Net). shifted_along v c.args.arcs.now x) c.take_end.ensures.value in
    let End : Net → ℕ → Type 0 = λ v u. (u < v.graph.nodes) × (x ≤ v.terminal Sink u) in
    let (there, room) = subst₂ End (sym value) (sym c.requires.end) (path_end _ _ (g.N.Network.lawful c.args.net.now) path) in
    record { trees = sent.trees; there = there; some = some_amount _ _ path; room = room }

pub returns-clause-kept : goal.returns-clause-kept
returns-clause-kept g c =
    let k = g.N.Network.keeping in
    k.then _ _ _ c.take_end.ensures.kept (k.then _ _ _ c.send_along.ensures.kept c.take_end-2.ensures.kept)
