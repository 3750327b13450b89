use Rattle.std.proofs.Common.{◌≡◌, Some, refl, arith, rules}
use Rattle.std.specs.List.{slice_get}
use Rattle.network.specs.declared.terminal.Terminal.TheVariants.{Sink}
use Rattle.network.specs.Answers.{whole}
use Rattle.trees.proofs.Places.{few_places}
use Rattle.search.proofs.Neighbours.{beside, place_inside, goes_on}
use Rattle.search.proofs.reading.NeighbourhoodIterator.next.Given as given
use Rattle.search.proofs.reading.NeighbourhoodIterator.next.Goals as goal

-- the arc at the place
told : (g : given.Over) (c : goal.In_ok-arc g) → whole (g.N.Network.value c.args.self.now.net.now) (slice_get ((g.N.Network.value c.args.self.now.net.now).graph.arcs c.args.self.now.node) c.args.self.now.place) ≡ Some c.in_ok-arc.arc
told g c = search rules

pub overflow_add-self : goal.overflow_add-self
overflow_add-self g c =
    let s = c.args.self.now in
    let v = g.N.Network.value s.net.now in
    omega (arith, place_inside v s.node s.place c.in_ok-arc.arc (told g c), few_places v.graph s.node (g.N.Network.lawful s.net.now).graph c.requires)

pub returns-in-Source-clause-goes : goal.returns-in-Source-clause-goes
returns-in-Source-clause-goes g c = goes_on g.N.Network.value c.args.self.now _ c.in_ok-arc.arc c.requires (told g c.before.before)

pub returns-in-Sink : goal.returns-in-Sink
returns-in-Sink g c =
    let s = c.args.self.now in
    let h = told g c.before.before in
    record {
      steps = (rw c.in-Sink.is (beside (g.N.Network.value s.net.now) Sink s.node s.place c.in_ok-arc.arc (g.N.Network.lawful s.net.now) c.requires h), record { net = refl; terminal = refl; node = refl; place = refl });
      goes = goes_on g.N.Network.value s _ c.in_ok-arc.arc c.requires h;
    }
