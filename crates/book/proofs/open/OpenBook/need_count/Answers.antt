use Rattle.std.proofs.Common.{arith}
use Rattle.book.proofs.Enterings.{need_count}
use Rattle.book.proofs.open.OpenBook.need_count.Goals as goal

pub returns : goal.returns
returns c = let held = c.args.self.now.held in omega (arith, need_count held.table.now held.entries held.needs)
