use Rattle.sheet.proofs.Passes.{all_there}
use Rattle.sheet.proofs.whole.read.Goals as goal

pub returns-then-highest-counts : goal.returns-then-highest-counts
returns-then-highest-counts c = all_there _ _ _ c.in_ok-counts.ensures c.if-highest-counts.true
