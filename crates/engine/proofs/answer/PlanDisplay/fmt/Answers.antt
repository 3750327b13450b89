use Rattle.std.proofs.Common.{sym, arith, rules}
use Rattle.std.proofs.Output.{has_written_append, has_written_of_eq}
use Rattle.network.specs.declared.mark.Mark.TheVariants.{In}
use Rattle.engine.specs.Texts.{answer_head}
use Rattle.engine.specs.Values.{answer_of}
use Rattle.engine.proofs.Texts.{lines_more}
use Rattle.engine.proofs.answer.PlanDisplay.fmt.Goals as goal

pub loop-entry-preserved : goal.loop-entry-preserved
loop-entry-preserved g c plain =
    let more = lines_more (answer_head (answer_of c.args.self.now)) c.deref-mark-items.result.now c.loop-entry.entry-counter In (omega arith) in
    has_written_of_eq _ _ _ _ _ (sym more) (has_written_append _ _ _ _ _ _ (c.loop-entry.invariant plain) (search rules))
