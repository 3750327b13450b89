use Rattle.std.proofs.Common.{arith}
use Rattle.book.proofs.Enterings.{unused_count}
use Rattle.book.proofs.open.OpenBook.unused.Goals as goal

pub returns-clause-value : goal.returns-clause-value
returns-clause-value c = let held = c.args.self.now.held in omega (arith, c.record_count.ensures, unused_count held.table held.entries held.needs)
