use Rattle.std.proofs.Common.{◌<◌, arith}
use Rattle.std.proofs.lemmas.Bool.Decides.{nat_tests}
use Rattle.book.proofs.Settled.{no_place, code_placed}
use Rattle.book.proofs.answering.SealedBookNetwork.arc_at.Goals as goal

pub returns-then-place-from : goal.returns-then-place-from
returns-then-place-from c =
    let b = c.args.self.now in
    let there : c.args.node < b.held.entries = grind (arith, nat_tests) in
    let none = no_place b c.args.node c.args.place there in
    grind (arith, nat_tests, none)

pub returns : goal.returns
returns c =
    let b = c.args.self.now in
    let there : c.args.node < b.held.entries = grind (arith, nat_tests) in
    let is = code_placed b c.args.node c.args.place there in
    grind (arith, nat_tests, is)
