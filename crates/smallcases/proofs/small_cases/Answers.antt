use Rattle.smallcases.proofs.Rows.{table_holds}
use Rattle.smallcases.proofs.small_cases.Goals as goal

pub returns : goal.returns
returns c = table_holds
