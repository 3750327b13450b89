use Rattle.std.proofs.Common.{◌≡◌, ◌/◌, ◌%◌, arith}
use Rattle.sheet.proofs.Maps.{need_bits, announces}
use Rattle.sheet.proofs.records.need_count.Goals as goal

pub returns : goal.returns
returns c =
    let bits = need_bits c.args.map in
    let at : c.from.result ≡ c.args.map / 4 % 16 = omega arith in
    rw at (announces (c.args.map / 4 % 16) (omega arith))
