use Rattle.std.proofs.Common.{◌+◌, [], ◌∷◌, ◌++◌, reverse, set, sym, ◌∙◌, subst, arith, rules}
use Rattle.std.proofs.lemmas.List.{append_assoc, length_push, length-reverse}
use Rattle.trees.specs.Climbs.{Written}
use Rattle.trees.proofs.Bridges.{over, over_length}
use Rattle.trees.proofs.Writing.{written_push, written_part}
use Rattle.trees.proofs.Crossing.{tail_short, ascent_fits, crossed}
use Rattle.search.specs.Tables.{forest_of}
use Rattle.search.proofs.tracing.Tracer.trace_arcs.Goals as goal

pub descend-below-requires-clause-room : goal.descend-below-requires-clause-room
descend-below-requires-clause-room g c w xs climb = omega (arith, tail_short (g.N.Network.lawful c.args.self.now.net.now) c.requires.trees c.requires.bridge c.near_end-tail.ensures climb)

pub climb-above-requires-clause-room : goal.climb-above-requires-clause-room
climb-above-requires-clause-room g c = ascent_fits (g.N.Network.value c.args.self.now.net.now) (forest_of c.args.self.now.table.now) c.args.bridge c.near_end-tail.result c.near_end-head.result _ c.args.arcs.now c.descend-below.new.arcs c.descend-below.result (g.N.Network.lawful c.args.self.now.net.now) c.requires.trees c.requires.bridge c.near_end-tail.ensures c.near_end-head.ensures c.descend-below.ensures.written (search rules)

pub returns : goal.returns
returns g c =
    let a = c.args.bridge in
    let before = c.args.arcs.now in
    let s = c.descend-below.result.0 in
    let (xs, down, written) = c.descend-below.ensures.written in
    let (ys, up, more) = c.climb-above.ensures in
    let short = tail_short (g.N.Network.lawful c.args.self.now.net.now) c.requires.trees c.requires.bridge c.near_end-tail.ensures down.climb in
    let over_bridge = written_push before c.descend-below.new.arcs (reverse xs) s a (down.count ∙ sym (length-reverse xs)) (omega (arith, down.count)) written in
    let all = written_part before (set c.descend-below.new.arcs s a) c.climb-above.new.arcs (reverse xs ++ a ∷ []) ys (s + 1) (omega (arith, length_push (reverse xs) a, length-reverse xs, down.count)) over_bridge more in (
      over xs a ys,
      omega (arith, over_length xs a ys, down.count, up.count),
      crossed (g.N.Network.lawful c.args.self.now.net.now) c.requires.trees c.requires.bridge c.near_end-tail.ensures c.near_end-head.ensures down up,
      subst (Written before _) (append_assoc (reverse xs) (a ∷ []) ys) all,
    )
