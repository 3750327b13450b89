use Rattle.std.proofs.Common.{arith}
use Rattle.std.proofs.lemmas.Grind.{common_steps}
use Rattle.netpbm.proofs.Spaces.{blank_more, blanks_end, blanks_over}
use Rattle.netpbm.proofs.numbers.after_blanks.Goals as goal

pub returns-then-not-is_blank : goal.returns-then-not-is_blank
returns-then-not-is_blank c =
    let ends = blanks_end c.args.text.now c.loop-place.place c.loop-place.in_remark (omega arith) (cc) in
    grind (arith, common_steps)

pub loop-place-preserved : goal.loop-place-preserved
loop-place-preserved c =
    let more = blank_more c.args.text.now c.loop-place.place c.loop-place.in_remark (omega arith) (cc) in
    cc

pub returns : goal.returns
returns c =
    let over = blanks_over c.args.text.now c.loop-place.place c.loop-place.in_remark (omega arith) in
    cc
