use Rattle.std.proofs.Common.{length, map, vec_items}
use Rattle.joblist.proofs.LineByLine.{PartsRead}
use Rattle.joblist.specs.Passes.{value_of}
use Rattle.joblist.proofs.reading.read_lines.Given as goal

abbrev pub invariant-loop-place : goal.invariant-loop-place
invariant-loop-place l =
    (goal.iterator-loop-place).can_next l.place-iterator ×
    (goal.iterator-loop-place).is_finite l.place-iterator × PartsRead l.text (length l.yielded) (map value_of (vec_items l.entries))
