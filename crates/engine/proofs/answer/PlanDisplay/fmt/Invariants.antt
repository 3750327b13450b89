use Rattle.std.proofs.Common.{◌++◌, take}
use Rattle.std.specs.Fmt.{HasWritten, IsPlainFormatter}
use Rattle.engine.specs.Texts.{answer_head, mark_lines}
use Rattle.engine.specs.Values.{answer_of}
use Rattle.engine.proofs.answer.PlanDisplay.fmt.Given as goal

-- the head and the lines of the entries so far have been written
abbrev pub invariant-loop-entry : goal.invariant-loop-entry
invariant-loop-entry g l = IsPlainFormatter l.fn.f → HasWritten g.W.Write.write_str_gives l.fn.f (answer_head (answer_of l.fn.self) ++ mark_lines 0 (take l.entry-counter l.mark-items)) l.f
