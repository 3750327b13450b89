use Rattle.std.proofs.Common.{arith}
use Rattle.std.proofs.lemmas.Bool.Decides.{nat_tests}
use Rattle.filing.proofs.Bytes.{need_bits_small}
use Rattle.filing.proofs.packing.bit_map.Goals as goal

pub overflow_mul-result-2 : goal.overflow_mul-result-2
overflow_mul-result-2 c = omega (arith, need_bits_small c.args.needs c.requires)

pub overflow_add-result-2 : goal.overflow_add-result-2
overflow_add-result-2 c = grind (arith, nat_tests, need_bits_small c.args.needs c.requires)
