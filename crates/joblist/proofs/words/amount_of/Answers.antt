use Rattle.std.proofs.Common.{◌+◌, arith}
use Rattle.joblist.proofs.Numerals.{no_digit, too_large, digit_more}
use Rattle.joblist.proofs.words.amount_of.Goals as goal

pub returns-then-not-is_ascii_digit : goal.returns-then-not-is_ascii_digit
returns-then-not-is_ascii_digit c = let none = no_digit c.args.word.now c.loop-byte.byte-index (omega arith) (cc) in cc

pub returns-then-amount-gt-MOST_AMOUNT : goal.returns-then-amount-gt-MOST_AMOUNT
returns-then-amount-gt-MOST_AMOUNT c = let none = too_large c.args.word.now (c.loop-byte.byte-index + 1) _ (digit_more c.args.word.now c.loop-byte.byte-index c.loop-byte.amount c.from.result (omega arith) c.loop-byte.invariant.0 c.loop-byte.invariant.1 (cc) (cc)).1 (omega arith) in cc

pub loop-byte-preserved : goal.loop-byte-preserved
loop-byte-preserved c =
    let more = digit_more c.args.word.now c.loop-byte.byte-index c.loop-byte.amount c.from.result (omega arith) c.loop-byte.invariant.0 c.loop-byte.invariant.1 (cc) (cc) in
    (more.0, more.1, omega arith)
