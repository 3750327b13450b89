use Rattle.std.proofs.Common.{arith}
use Rattle.netpbm.proofs.Digits.{digit_more}
use Rattle.netpbm.proofs.numbers.value_of.Goals as goal

pub loop-digit-preserved : goal.loop-digit-preserved
loop-digit-preserved c = digit_more _ c.args.digits.now c.loop-digit.digit-index c.loop-digit.value _ c.from.result (omega arith) c.requires c.loop-digit.invariant (cc) (cc)
