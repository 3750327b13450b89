use Rattle.std.proofs.Common.{◌≡◌, ◌%◌}
use Rattle.tile.proofs.Places.{at_tells}
use Rattle.tile.proofs.neighbours.Neighbours.at.Goals as goal

pub returns-then-place-lt4 : goal.returns-then-place-lt4
returns-then-place-lt4 c =
    let low : c.from.result ≡ c.args.self.bits % 16 = c.from.ensures in
    rw low (at_tells c.args.self c.args.place c.if-place-lt4.true)
