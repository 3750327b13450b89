use Rattle.std.proofs.Common.{arith}
use Rattle.std.proofs.lemmas.Bool.Decides.{nat_tests}
use Rattle.std.proofs.lemmas.Option.{gets}
use Rattle.book.proofs.Lookups.{amounts_asked}
use Rattle.book.proofs.open.OpenBook.cost.Goals as goal

pub returns : goal.returns
returns c = let asked = amounts_asked c.args.self.now c.args.entry c.records.ensures in grind (arith, nat_tests, gets, c.map.ensures, c.get.ensures)
