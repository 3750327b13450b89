use Rattle.std.proofs.Common.{[], ◌∷◌, ◌++◌, take, drop, sym, ap, ◌∙◌, arith}
use Rattle.network.specs.declared.terminal.Terminal.TheVariants.{Sink}
use Rattle.network.specs.Nets.{Net, taken}
use Rattle.search.specs.declared.report.Log.{Log}
use Rattle.search.proofs.Behind.{put_behind, single}
use Rattle.search.proofs.starting.pass_through.Goals as goal

pub returns-clause-further : goal.returns-clause-further
returns-clause-further g c =
    let v = g.N.Network.value c.args.net.now in
    let u = c.args.node in
    let x = c.args.amount in
    let trail = c.args.trail.now in
    let n = c.args.log.now.words in
    record {
      augmenting = single v u x c.requires.there c.requires.some c.requires.least;
      room = c.requires.room;
      value = c.take_from-2.ensures.value ∙ ap (λ (w : Net). taken w Sink u x) c.take_from.ensures.value;
      log = c.with.ensures;
      fits = omega (arith, ap (λ (l : Log). l.words) c.with.ensures);
      trail = put_behind trail _ (0 ∷ x ∷ u ∷ []) n (omega arith) c.write_head.ensures ∙ ap (λ k. take n trail ++ ((0 ∷ x ∷ u ∷ []) ++ drop k trail)) (sym (ap (λ (l : Log). l.words) c.with.ensures));
    }

pub returns-clause-kept : goal.returns-clause-kept
returns-clause-kept g c = g.N.Network.keeping.then _ _ _ c.take_from.ensures.kept c.take_from-2.ensures.kept
