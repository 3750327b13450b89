use Rattle.std.proofs.Common.{◌≤◌, length, sym, ap, ◌∙◌, subst, arith}
use Rattle.network.specs.Paths.{Path, carried}
use Rattle.trees.specs.Trees.{AllOnward}
use Rattle.search.specs.declared.report.Log.{Log}
use Rattle.search.specs.Tables.{forest_of}
use Rattle.search.proofs.Augmenting.{read_is, read_last, traced_few, log_traced, trail_traced}
use Rattle.search.proofs.running.augment.Goals as goal

pub carry-requires : goal.carry-requires
carry-requires g c =
    let v = g.N.Network.value c.args.net.now in
    let f = forest_of c.args.table.now in
    let n = c.args.log.now.words in
    let (p, t) = c.trace-path.ensures in
    let room : n ≤ length c.args.trail.now = omega arith in
    let is = read_is c.args.trail.now n room t in
    record {
      trees = c.requires.trees.trees;
      path = rw is t.augmenting;
      end = read_last c.args.trail.now n room t;
      onward = subst (λ (q : Path). AllOnward v.graph f q.arcs) (sym is) t.onward;
    }

pub returns-clause-further : goal.returns-clause-further
returns-clause-further g c =
    let v = g.N.Network.value c.args.net.now in
    let trail = c.args.trail.now in
    let log = c.args.log.now in
    let (p, t) = c.trace-path.ensures in
    let few = traced_few (g.N.Network.lawful c.args.net.now) t in
    let more = log_traced log t c.with.ensures in (
      p,
      record {
        augmenting = t.augmenting;
        room = c.requires.room;
        value = c.carry.ensures.value ∙ ap (carried v) (read_is trail log.words (omega arith) t);
        log = more;
        fits = omega (arith, few, ap (λ (x : Log). x.words) c.with.ensures);
        trail = trail_traced trail log (omega arith) t more;
      },
    )
