use Rattle.std.proofs.Common.{◌≡◌, ap, ◌∙◌, arith, rules}
use Rattle.trees.specs.Forests.{cleared}
use Rattle.search.specs.declared.report.Outcome.TheVariants.{Finished}
use Rattle.search.specs.Tables.{forest_of}
use Rattle.search.proofs.Logs.{logged_bounded, logged_nodes}
use Rattle.search.proofs.running.search.Goals as goal

pub plant-requires-clause-cleared : goal.plant-requires-clause-cleared
plant-requires-clause-cleared g c = c.cleared-table.ensures ∙ ap cleared (omega (arith, logged_nodes c.start.ensures.logged))

pub search_on-outcome-requires-clause-bounded : goal.search_on-outcome-requires-clause-bounded
search_on-outcome-requires-clause-bounded g c = logged_bounded (g.N.Network.lawful c.args.net.now) c.start.ensures.logged.1

pub mark-requires : goal.mark-requires
mark-requires g c = omega (arith, logged_nodes c.start.ensures.logged)

pub returns-then-eq-2-clause-ended : goal.returns-then-eq-2-clause-ended
returns-then-eq-2-clause-ended g c =
    let done : c.search_on-outcome.result ≡ Finished = search rules in
    let logged = c.search_on-outcome.ensures.steps (g.N.Network.value c.args.net.now) c.args.trail.now c.start.ensures.logged in
    let before = logged_nodes c.start.ensures.logged in
    let after = logged_nodes logged in
    rw done (forest_of c.search_on-outcome.new.table, rw done at c.search_on-outcome.ensures.searched, λ u there. c.mark.ensures u (omega arith))
