use Rattle.std.proofs.Common.{map, Ok, sym, subst, arith}
use Rattle.std.proofs.lemmas.Result.{IfOk-weaker}
use Rattle.joblist.specs.Drafts.{bytes_of, Drafted}
use Rattle.joblist.specs.Lines.{lines_of}
use Rattle.joblist.specs.Passes.{value_of, LinesRead, entries_of, EntriesDrafted}
use Rattle.joblist.proofs.Soundness.{sound_read}
use Rattle.joblist.proofs.Telling.{drafted}
use Rattle.joblist.proofs.drafting.to_sheet.Goals as goal

pub draft-requires : goal.draft-requires
draft-requires c = sound_read (lines_of c.args.text.now) c.in_ok-entries.field-0 c.in-Ok.entries c.deref.result.now c.in_ok-entries.ensures c.in-Ok.is c.deref.ensures.value

pub returns-in-Ok : goal.returns-in-Ok
returns-in-Ok c =
    let es = map value_of c.deref.result.now in
    let read = subst (λ answer. LinesRead (lines_of c.args.text.now) (entries_of answer)) c.in-Ok.is c.in_ok-entries.ensures in
    let held = subst (λ xs. LinesRead (lines_of c.args.text.now) (Ok (map value_of xs))) (sym c.deref.ensures.value) read in
    IfOk-weaker c.draft.result (λ answer. EntriesDrafted es (bytes_of answer)) (λ answer. Drafted c.args.text.now (bytes_of answer)) (λ answer. drafted c.args.text.now es (bytes_of answer) (omega arith) held) c.draft.ensures
