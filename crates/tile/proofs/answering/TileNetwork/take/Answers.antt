use Rattle.std.proofs.Common.{◌≡◌, ◌-◌, ◌*◌, ◌<◌, ◌≤◌, take, set, sym, ap, subst, ◌∙◌, arith, length-set}
use Rattle.std.proofs.lemmas.Bool.Decides.{nat_tests}
use Rattle.std.proofs.lemmas.List.{length-take-le, get_or-take}
use Rattle.network.specs.Answers.{done, take_answer}
use Rattle.network.specs.Nets.{with_terminal}
use Rattle.tile.specs.Pixels.{Small, terminal_of, put_terminal}
use Rattle.tile.specs.Tables.{no_pixel, pixel_at, of_pixels, SmallPairs}
use Rattle.tile.proofs.Changes.{table_told, table_terminal}
use Rattle.tile.proofs.answering.TileNetwork.take.Goals as goal

pub invariant_of-self-clause-room : goal.invariant_of-self-clause-room
invariant_of-self-clause-room c = let x = c.args.self.now in omega (arith, x.room, length-set x.table.now c.args.node c.set_terminal.new.self)

pub invariant_of-self-clause-told : goal.invariant_of-self-clause-told
invariant_of-self-clause-told c =
    let x = c.args.self.now in
    let n = x.width * x.height in
    let old = pixel_at (take n x.table.now) c.args.node in
    let long = length-take-le n x.table.now x.room in
    let there : c.args.node < n = grind (arith, nat_tests) in
    let same = get_or-take n x.table.now c.args.node no_pixel there in
    let is : c.set_terminal.new.self ≡ put_terminal old c.args.terminal c.in_ok-left.left = rw same c.set_terminal.ensures in
    let small : Small old = x.told.small c.args.node (omega arith) in
    let less : c.in_ok-left.left ≤ 255 = grind (arith, nat_tests) in
    let this : Small c.set_terminal.new.self = rw is (grind arith) in
    table_told x.width x.table.now n c.args.node c.set_terminal.new.self x.room there x.told this (rw is (grind arith))

pub invariant_of-self-clause-pairs : goal.invariant_of-self-clause-pairs
invariant_of-self-clause-pairs c =
    let x = c.args.self.now in
    let n = x.width * x.height in
    let t = c.args.terminal in
    let long = length-take-le n x.table.now x.room in
    let there : c.args.node < n = grind (arith, nat_tests) in
    let same = get_or-take n x.table.now c.args.node no_pixel there in
    let is : c.set_terminal.new.self ≡ put_terminal (pixel_at (take n x.table.now) c.args.node) t c.in_ok-left.left = rw same c.set_terminal.ensures in
    let value = ap (λ r. of_pixels x.width (take n (set x.table.now c.args.node r))) is ∙ table_terminal x.width x.table.now n t c.args.node c.in_ok-left.left x.room there in
    subst SmallPairs (sym value) x.pairs

pub returns-clause-after : goal.returns-clause-after
returns-clause-after c =
    let x = c.args.self.now in
    let n = x.width * x.height in
    let t = c.args.terminal in
    let u = c.args.node in
    let long = length-take-le n x.table.now x.room in
    let left = c.in_ok-left.left in
    let there : u < n = grind (arith, nat_tests) in
    let same = get_or-take n x.table.now u no_pixel there in
    let is : c.set_terminal.new.self ≡ put_terminal (pixel_at (take n x.table.now) u) t left = rw same c.set_terminal.ensures in
    let lower : left ≡ terminal_of (pixel_at (take n x.table.now) u) t - c.args.amount = grind (arith, nat_tests) in
    let accepted : take_answer (of_pixels x.width (take n x.table.now)) t u c.args.amount ≡ done = grind (arith, nat_tests) in
    rw accepted (ap (λ r. of_pixels x.width (take n (set x.table.now u r))) is ∙ table_terminal x.width x.table.now n t u left x.room there ∙ ap (with_terminal (of_pixels x.width (take n x.table.now)) t u) lower)
