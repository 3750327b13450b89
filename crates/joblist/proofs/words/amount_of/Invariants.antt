use Rattle.std.proofs.Common.{◌≡◌, ◌≤◌, true, take}
use Rattle.std.specs.Char.{is_ascii_digit}
use Rattle.std.specs.List.{list_all}
use Rattle.std.specs.Str.Parse.{digits_value}
use Rattle.joblist.proofs.words.amount_of.Given as goal

-- the bytes so far are the digits of the amount so far
abbrev pub invariant-loop-byte : goal.invariant-loop-byte
invariant-loop-byte l = (list_all is_ascii_digit (take l.byte-index l.word) ≡ true) × (l.amount ≡ digits_value 10 (take l.byte-index l.word)) × (l.amount ≤ 1000000)
