use Rattle.std.proofs.Common.{length, map, ap, subst, arith}
use Rattle.book.specs.Calls.{Open}
use Rattle.book.specs.Values.{open_of}
use Rattle.joblist.specs.Passes.{value_of, AllNeedsEntered}
use Rattle.joblist.proofs.Telling.{needs_told, refusal_told}
use Rattle.joblist.proofs.drafting.draft.Goals as goal

pub enter_all-requires-clause-new : goal.enter_all-requires-clause-new
enter_all-requires-clause-new c = ap (λ (o : Open). o.book) c.new-book.ensures

pub enter_all-requires-clause-room : goal.enter_all-requires-clause-room
enter_all-requires-clause-room c = omega (arith, ap (λ (o : Open). length o.table.now) c.new-book.ensures, c.deref_mut.ensures.len, c.in_ok-table.ensures.len)

pub need_all-requires-clause-entered : goal.need_all-requires-clause-entered
need_all-requires-clause-entered c = c.enter_all.ensures.book

pub need_all-requires-clause-room : goal.need_all-requires-clause-room
need_all-requires-clause-room c = omega (arith, ap (λ (o : Open). length o.table.now) c.new-book.ensures, c.deref_mut.ensures.len, c.in_ok-table.ensures.len, c.enter_all.ensures.spared.untouched.0)

pub returns-in-Err : goal.returns-in-Err
returns-in-Err c =
    let es = map value_of c.args.entries.now in
    let entered = subst (λ answer. AllNeedsEntered es (open_of c.enter_all.new.book) answer (open_of c.need_all.new.book)) c.in-Err.is c.need_all.ensures in
    refusal_told es (open_of c.enter_all.new.book) (open_of c.need_all.new.book) c.in-Err.refusal entered

pub returns : goal.returns
returns c =
    let es = map value_of c.args.entries.now in
    let entered = subst (λ answer. AllNeedsEntered es (open_of c.enter_all.new.book) answer (open_of c.need_all.new.book)) c.in_default.is c.need_all.ensures in
    ((open_of c.need_all.new.book).book, needs_told es (open_of c.enter_all.new.book) (open_of c.need_all.new.book) entered, c.in_ok-sheet.ensures.whole, c.in_ok-sheet.ensures.back)
