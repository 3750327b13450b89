use Rattle.std.proofs.Common.{sym, ◌∙◌}
use Rattle.search.specs.Tables.{forest_of}
use Rattle.search.proofs.Freeing.{released_in}
use Rattle.search.proofs.adoption.Adoption.release.Goals as goal

pub returns-then-is_in : goal.returns-then-is_in
returns-then-is_in g c = released_in c.args.self.now.terminal c.args.next (forest_of c.args.table.now) _ _ (sym c.is_in.ensures ∙ c.if-is_in.true) c.wake.ensures c.disown.ensures
