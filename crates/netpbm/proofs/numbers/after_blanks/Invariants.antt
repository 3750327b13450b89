use Rattle.std.proofs.Common.{◌≡◌, false, drop}
use Rattle.netpbm.specs.Blanks.{after_blanks}
use Rattle.netpbm.proofs.numbers.after_blanks.Given as goal

-- what follows the blanks stands in what is left
abbrev pub invariant-loop-place : goal.invariant-loop-place
invariant-loop-place l = after_blanks false l.text ≡ after_blanks l.in_remark (drop l.place l.text)
