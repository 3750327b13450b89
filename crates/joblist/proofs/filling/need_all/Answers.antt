use Rattle.std.proofs.Common.{◌<◌, map, length, Some, ap, ◌∙◌, subst, arith}
use Rattle.std.proofs.lemmas.List.{length-map}
use Rattle.book.specs.Values.{open_of}
use Rattle.joblist.specs.declared.refusal.JobRefusal.TheVariants.{Faulty}
use Rattle.joblist.specs.Entries.{Entry, no_entry}
use Rattle.joblist.specs.Passes.{value_of, NeedsEntered}
use Rattle.joblist.proofs.Lists.{value_at}
use Rattle.joblist.proofs.NeedsByEntry.{needs_none, needs_entered, needs_refused}
use Rattle.joblist.proofs.filling.need_all.Goals as goal

pub loop-number-init : goal.loop-number-init
loop-number-init c = needs_none (map value_of c.args.entries.now) (open_of c.args.book.now) c.requires.entered

pub returns-in-Err : goal.returns-in-Err
returns-in-Err c =
    let es = map value_of c.args.entries.now in
    let n = c.loop-number.number in
    let inside : n < length es = omega (arith, length-map c.args.entries.now value_of) in
    let here = value_at value_of c.args.entries.now n c.index-entries-number.result no_entry (omega arith) c.index-entries-number.is in
    let refused = subst (λ answer. NeedsEntered es n (open_of c.loop-number.book) answer (open_of c.enter_needs.new.book)) c.in-Err.is c.enter_needs.ensures in
    needs_refused es n (open_of c.args.book.now) (open_of c.loop-number.book) (open_of c.enter_needs.new.book) c.in-Err.fault c.loop-number.invariant inside refused ∙ ap (λ (e : Entry). Some (Faulty c.in-Err.fault e.line)) here

pub loop-number-preserved : goal.loop-number-preserved
loop-number-preserved c =
    let es = map value_of c.args.entries.now in
    let inside : c.loop-number.number < length es = omega (arith, length-map c.args.entries.now value_of) in
    let entered = subst (λ answer. NeedsEntered es c.loop-number.number (open_of c.loop-number.book) answer (open_of c.enter_needs.new.book)) c.in_default.is c.enter_needs.ensures in
    needs_entered es c.loop-number.number (open_of c.args.book.now) (open_of c.loop-number.book) (open_of c.enter_needs.new.book) c.loop-number.invariant inside entered
