use Rattle.std.proofs.Common.{rules}
use Rattle.book.proofs.Needings.{earned_by_all}
use Rattle.book.proofs.open.OpenBook.total_earnings.Goals as goal

pub returns : goal.returns
returns c = let all = earned_by_all c.args.self.now in search rules
