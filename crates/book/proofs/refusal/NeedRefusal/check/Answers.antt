use Rattle.std.proofs.Common.{arith}
use Rattle.std.proofs.lemmas.Bool.Decides.{nat_tests}
use Rattle.book.proofs.refusal.NeedRefusal.check.Goals as goal

pub returns-then-from-ge-MOST_NEEDS-clause-refusal : goal.returns-then-from-ge-MOST_NEEDS-clause-refusal
returns-then-from-ge-MOST_NEEDS-clause-refusal c = let four = c.requires.four c.args.entry c.if-entry-entries.false in grind (arith, nat_tests)
