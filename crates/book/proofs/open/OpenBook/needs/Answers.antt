use Rattle.std.proofs.Common.{arith, sym}
use Rattle.std.proofs.lemmas.Bool.Decides.{nat_tests}
use Rattle.book.specs.Tables.{columns}
use Rattle.book.proofs.Keeping.{no_needs}
use Rattle.book.proofs.Needings.{entries_long}
use Rattle.book.proofs.open.OpenBook.needs.Goals as goal

pub returns-in-None : goal.returns-in-None
returns-in-None c =
    let b = c.args.self.now in
    let long = entries_long b c.records.ensures in
    sym (no_needs (columns b.held.table.now b.held.entries b.held.needs) b.held.entries b.held.needs c.args.entry b.held.heads (grind (arith, nat_tests, c.get.ensures, c.in-None.is)))
