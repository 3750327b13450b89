use Rattle.std.proofs.Common.{arith}
use Rattle.std.proofs.lemmas.List.Sums.{prefix_len-le-length}
use Rattle.std.specs.Char.{is_ascii_digit}
use Rattle.netpbm.proofs.Digits.{digits_all, number_told}
use Rattle.netpbm.proofs.numbers.next_number.Goals as goal

pub split_at-requires : goal.split_at-requires
split_at-requires c =
    let few = prefix_len-le-length is_ascii_digit c.after_blanks-word.result.now in
    omega arith

pub value_of-requires : goal.value_of-requires
value_of-requires c =
    let all = digits_all c.after_blanks-word.result.now in
    cc

pub returns : goal.returns
returns c = number_told c.args.text.now c.after_blanks-word.result.now c.split_at.result.1.now c.digit_count-length.result c.value_of.result c.after_blanks-word.ensures c.digit_count-length.ensures c.if-word-text.false c.if-length-eq0.false (cc) c.split_at.ensures.back
