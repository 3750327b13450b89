use Rattle.std.proofs.Common.{◌≡◌, ◌++◌, take}
use Rattle.sheet.specs.Format.{need_bytes}
use Rattle.filing.proofs.packing.pack.Given as goal

abbrev pub invariant-loop-need : goal.invariant-loop-need
invariant-loop-need l = l.packed.items ≡ l.initial.packed.items ++ need_bytes (take l.need-index l.needs)
